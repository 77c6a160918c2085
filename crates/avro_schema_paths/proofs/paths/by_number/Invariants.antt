-- The paths of the entries so far are at the numbers of their nodes.
use Rattle.avro_schema_paths.specs.ByNumber.{AreByNumber}
use Rattle.avro_schema_paths.proofs.paths.by_number.Given as goal

abbrev pub invariant-loop-entry : goal.invariant-loop-entry
invariant-loop-entry l = AreByNumber l.yielded l.count l.paths.items
