use Rattle.std.proofs.Common.{arith}
use Rattle.std.proofs.lemmas.Grind.{common_steps}
use Rattle.avro_schema_names.proofs.NameRule.{name-empty, name-starts}
use Rattle.avro_schema_names.proofs.names.is_name.Goals as goal

pub returns-in-empty : goal.returns-in-empty
returns-in-empty c = name-empty c.args.text.now c.in-empty.len_below

pub returns-then-is_letter : goal.returns-then-is_letter
returns-then-is_letter c = rw (name-starts c.args.text.now c.in-len1-up.len_at_least, ← c.if-is_letter.ensures) (grind (arith, common_steps))

pub returns-else-is_letter : goal.returns-else-is_letter
returns-else-is_letter c = rw (name-starts c.args.text.now c.in-len1-up.len_at_least, ← c.if-is_letter.ensures) c.if-is_letter.false
