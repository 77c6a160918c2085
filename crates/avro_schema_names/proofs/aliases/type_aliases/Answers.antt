use Rattle.std.proofs.Common.{◌≡◌, true, refl}
use Rattle.spec_avro.specs.FullNames.{is_namespace, namespace_of}
use Rattle.spec_schema.specs.Aliases.{type_aliases}
use Rattle.avro_schema_names.proofs.TypeAliases.{all_full}
use Rattle.avro_schema_names.proofs.aliases.type_aliases.Goals as goal

pub returns-then-not-are_full_names : goal.returns-then-not-are_full_names
unfolding type_aliases
returns-then-not-are_full_names c =
    let space : is_namespace (namespace_of c.args.name.now) ≡ true = rw (← c.in_ok-namespace.ensures.text) c.in_ok-namespace.ensures.by_rule in
    λ _. rw (c.in_ok-texts.ensures, all_full (namespace_of c.args.name.now) space c.in_ok-texts.texts.items, ← c.deref.ensures.value, ← c.are_full_names.ensures, c.if-not-are_full_names.true) refl

pub returns : goal.returns
unfolding type_aliases
returns c =
    let space : is_namespace (namespace_of c.args.name.now) ≡ true = rw (← c.in_ok-namespace.ensures.text) c.in_ok-namespace.ensures.by_rule in
    rw (c.in_ok-of_texts.ensures, c.in_ok-namespace.ensures.text, c.in_ok-texts.ensures, all_full (namespace_of c.args.name.now) space c.in_ok-texts.texts.items, ← c.deref.ensures.value, ← c.are_full_names.ensures, c.if-not-are_full_names.false) refl
