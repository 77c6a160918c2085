-- The fields so far lack nothing, so what lacks is what lacks among the rest.
use Rattle.std.proofs.Common.{◌≡◌, drop}
use Rattle.avro_types.specs.Node.{fields_of}
use Rattle.spec_avro.specs.Resolution.{lacking_from}
use Rattle.resolver.proofs.fields.first_lacking.Given as goal

abbrev pub invariant-loop-position : goal.invariant-loop-position
invariant-loop-position l = lacking_from l.routes l.position (fields_of (drop l.position l.reader_fields)) ≡ lacking_from l.routes 0 (fields_of l.reader_fields)
