use Rattle.std.proofs.Common.{ap, ◌∙◌}
use Rattle.avro_schema_names.specs.declared.draft.Draft.TheVariants as rust
use Rattle.avro_schema_names.proofs.DraftLists.{drafts_of-append, drafts_of-pushed}
use Rattle.avro_schema_names.specs.Draft.{draft_of, drafts_of}
use Rattle.avro_schema_names.proofs.IndexSteps.{index-pushed}
use Rattle.avro_schema_names.proofs.drafts.Drafts.push.Goals as goal

pub invariant_of-self : goal.invariant_of-self
invariant_of-self c =
    let d = c.self.inside in
    let k = rust.Whole c.args.kind in
    index-pushed d.numbers d.scopes.items (drafts_of d.nodes.items) (drafts_of c.push.new.self.items) (draft_of k) _ c.self.invariant c.requires (drafts_of-pushed _ d.nodes.items c.push.new.self.items k c.push.ensures.items)

pub invariant_of-self-2 : goal.invariant_of-self-2
invariant_of-self-2 c =
    let d = c.self.inside in
    let k = rust.Whole c.args.kind in
    index-pushed d.numbers d.scopes.items (drafts_of d.nodes.items) (drafts_of c.push.new.self.items) (draft_of k) _ c.self.invariant c.requires (drafts_of-pushed _ d.nodes.items c.push.new.self.items k c.push.ensures.items)

pub returns-clause-nodes : goal.returns-clause-nodes
returns-clause-nodes c = rw (← c.self.view_is) (ap drafts_of c.in_ok-push.ensures.items ∙ drafts_of-append c.self.inside.nodes.items _)
