use Rattle.spec_schema.specs.Names.{field_name}
use Rattle.avro_schema_names.proofs.names.field_name.Goals as goal

pub returns : goal.returns
unfolding field_name
returns c = rw (c.in_ok-name.ensures.told, ← c.if-is_used.ensures, c.in_ok-from_str.ensures.ok, ← c.as_bytes.ensures.value, ← c.if-not-is_name.ensures)
