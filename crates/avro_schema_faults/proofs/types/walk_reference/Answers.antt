use Rattle.std.proofs.Common.{sym, ◌∙◌}
use Rattle.std.specs.Arc.{arc_str_bytes}
use Rattle.avro_schema.proofs.References.{refers, refers_not}
use Rattle.avro_schema_faults.proofs.types.walk_reference.Goals as goal

pub returns-in-Some : goal.returns-in-Some
returns-in-Some c = refers c.args.text.now (arc_str_bytes c.args.enclosing.now.text) c.args.drafts.now c.in-Some.node (sym c.defined_node.ensures ∙ c.in-Some.is)

pub returns-in-None : goal.returns-in-None
returns-in-None c = λ _. refers_not c.args.text.now (arc_str_bytes c.args.enclosing.now.text) c.args.drafts.now (sym c.defined_node.ensures ∙ c.in-None.is)
