-- The names so far.
use Rattle.std.proofs.Common.{◌≡◌, map, take, string_bytes}
use Rattle.avro_types.specs.Node.{fields_of}
use Rattle.spec_avro.specs.Partners.{field_names}
use Rattle.resolver.proofs.pairing.table.Given as goal

abbrev pub invariant-loop-field : goal.invariant-loop-field
invariant-loop-field l = map string_bytes l.names.items ≡ field_names (fields_of (take l.field-index l.fields))
