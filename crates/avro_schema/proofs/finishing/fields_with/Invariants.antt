use Rattle.std.proofs.Common.{◌≡◌, map}
use Rattle.avro_types.specs.Node.{fields_of}
use Rattle.avro_schema.proofs.Finished.{field_from}
use Rattle.avro_schema.proofs.finishing.fields_with.Given as goal

abbrev pub invariant-loop-field : goal.invariant-loop-field
invariant-loop-field l = fields_of l.whole.items ≡ map field_from l.yielded
