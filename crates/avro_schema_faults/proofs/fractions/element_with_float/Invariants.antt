use Rattle.avro_schema_faults.proofs.FloatSteps.{HasNone}
use Rattle.avro_schema_faults.proofs.fractions.element_with_float.Given as goal

abbrev pub invariant-loop-i : goal.invariant-loop-i
invariant-loop-i l = HasNone l.items l.i
