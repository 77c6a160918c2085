-- Those so far, before those of the fields that are left.
use Rattle.std.proofs.Common.{◌≡◌, ◌++◌, drop}
use Rattle.avro_types.specs.Node.{fields_of}
use Rattle.schema_check.specs.Details.{lacking_positions}
use Rattle.schema_check.proofs.fields.lacking_positions.Given as goal

abbrev pub invariant-loop-position : goal.invariant-loop-position
invariant-loop-position l = l.lacking.items ++ lacking_positions l.routes l.position (fields_of (drop l.position l.rs)) ≡ lacking_positions l.routes 0 (fields_of l.rs)
