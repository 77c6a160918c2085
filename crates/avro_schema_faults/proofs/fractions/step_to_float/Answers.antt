use Rattle.serde_json.specs.View.{view, items_view}
use Rattle.avro_schema_faults.proofs.FloatSteps.{in-array, none-in_plain}
use Rattle.avro_schema_faults.proofs.fractions.step_to_float.Goals as goal

pub returns-in-Some : goal.returns-in-Some
returns-in-Some c = in-array (view c.args.value.now) (items_view c.in-Some.items.now.items) c.element_with_float.result c.in-Some.ensures (rw c.deref.ensures.value at c.element_with_float.ensures)

pub returns-in-None-2 : goal.returns-in-None-2
returns-in-None-2 c = none-in_plain (view c.args.value.now) c.if-is_object.ensures c.in-None.ensures
