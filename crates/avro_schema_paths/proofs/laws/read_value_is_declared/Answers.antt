-- A text reads as one value.
use Rattle.avro_schema_paths.proofs.Reading.{value_is_declared}
use Rattle.avro_schema_paths.proofs.laws.read_value_is_declared.Goals as goal

pub returns : goal.returns
returns c = value_is_declared
