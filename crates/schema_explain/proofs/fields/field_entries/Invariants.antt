-- The entries so far, before those of the fields that are left.
use Rattle.std.proofs.Common.{◌≡◌, ◌++◌, drop}
use Rattle.avro_types.specs.Node.{fields_of}
use Rattle.schema_explain.specs.Parts.{field_entries}
use Rattle.schema_explain.proofs.fields.field_entries.Given as goal

abbrev pub invariant-loop-position : goal.invariant-loop-position
invariant-loop-position l = l.entries.items ++ field_entries l.whole l.routes l.position (fields_of (drop l.position l.rs)) ≡ field_entries l.whole l.routes 0 (fields_of l.rs)
