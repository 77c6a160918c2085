use Rattle.std.proofs.Common.{◌∙◌}
use Rattle.std.specs.Arc.{arc_str_bytes}
use Rattle.avro_schema_names.specs.Draft.{drafts_of}
use Rattle.avro_schema_names.proofs.Index.{found-under}
use Rattle.avro_schema_names.proofs.drafts.Drafts.defined_in.Goals as goal

pub returns : goal.returns
returns c =
    let d = c.self.inside in
    let known = rw (← c.self.view_is) at c.requires.known in
    rw (← c.self.view_is)
    (c.copied.ensures ∙ c.get.ensures.value
    ∙ found-under d.numbers d.scopes.items (drafts_of d.nodes.items) c.self.invariant c.args.enclosing.now.number (arc_str_bytes c.args.enclosing.now.text) c.args.last.now c.index.result.now known c.index.ensures c.requires.undotted)
