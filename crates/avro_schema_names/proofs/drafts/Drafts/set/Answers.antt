use Rattle.std.proofs.Common.{ap, ◌∙◌}
use Rattle.avro_schema_names.specs.Draft.{draft_of, drafts_of}
use Rattle.avro_schema_names.proofs.DraftLists.{drafts_of-set}
use Rattle.avro_schema_names.proofs.IndexSteps.{index-set}
use Rattle.avro_schema_names.proofs.drafts.Drafts.set.Goals as goal

pub invariant_of-self : goal.invariant_of-self
invariant_of-self c =
    let d = c.self.inside in
    let same = rw (← c.self.view_is) at c.requires in
    rw (c.put.ensures, drafts_of-set d.nodes.items c.args.node c.args.draft) (index-set d.numbers d.scopes.items (drafts_of d.nodes.items) c.args.node (draft_of c.args.draft) c.self.invariant same)

pub returns : goal.returns
returns c = rw (← c.self.view_is) (ap drafts_of c.put.ensures ∙ drafts_of-set c.self.inside.nodes.items c.args.node c.args.draft)
