use Rattle.std.proofs.Common.{refl}
use Rattle.spec_schema.specs.Aliases.{field_aliases}
use Rattle.avro_schema_names.proofs.Texts.{all_names}
use Rattle.avro_schema_names.proofs.aliases.field_aliases.Goals as goal

pub returns-then-not-are_names : goal.returns-then-not-are_names
unfolding field_aliases
returns-then-not-are_names c = λ _. rw (c.in_ok-texts.ensures, all_names c.in_ok-texts.texts.items, ← c.deref.ensures.value, ← c.are_names.ensures, c.if-not-are_names.true) refl

pub returns : goal.returns
unfolding field_aliases
returns c = rw (c.in_ok-texts.ensures, all_names c.in_ok-texts.texts.items, ← c.deref.ensures.value, ← c.are_names.ensures, c.if-not-are_names.false) refl
