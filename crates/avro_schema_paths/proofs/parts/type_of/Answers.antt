-- The field at the position, or none past the last.
use Rattle.std.proofs.Common.{sym, arith}
use Rattle.avro_schema_paths.proofs.Inverting.{type_none, type_some}
use Rattle.avro_schema_paths.proofs.parts.type_of.Goals as goal

pub returns-then-position-fields : goal.returns-then-position-fields
returns-then-position-fields c = sym (type_some c.args.fields.now c.args.position c.index-fields-position.result (omega arith))

pub returns-else-position-fields : goal.returns-else-position-fields
returns-else-position-fields c = sym (type_none c.args.fields.now c.args.position (omega arith))
