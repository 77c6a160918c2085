-- What was kept makes the registry again.
use Rattle.std.proofs.Common.{◌≡◌, ℕ, List, [], ◌∷◌, ◌++◌, map, Bool, true, false, is_some, if◌then◌else◌, Result, Ok, Err, refl, sym, ◌∙◌, ap, append_assoc}
use Rattle.std.proofs.lemmas.List.{append-nil}
use Rattle.spec_schema.specs.declared.schema_error.SchemaError.{SchemaError}
use Rattle.spec_schema.specs.Schema.{Declaration}
use Rattle.spec_registry.specs.Command.{Command, RegisterCommand, SetLevelCommand, LookupCommand, CheckCommand, VersionsCommand, VersionCommand, SubjectsCommand, SchemaCommand, LevelCommand}
use Rattle.spec_registry.specs.Lists.{Lists, no_lists, versions_of, with_text}
use Rattle.spec_registry.specs.Accepting.{declaration_of, id_for, registered, registry_after, taken, taken_all, with_version}
use Rattle.schema_registry.specs.Keeping.{KeptCommand, KeptRegistration, command_for, registration_kept, kept_of, kept_from, kept_in}

taken_all-more : (lists : Lists) (cs ds : List Command) → taken_all lists (cs ++ ds) ≡ taken_all (taken_all lists cs) ds
taken_all-more lists [] ds = refl
taken_all-more lists (c ∷ cs) ds = taken_all-more (taken lists c) cs ds

pub map-more : (ks js : List KeptCommand) → map command_for (ks ++ js) ≡ map command_for ks ++ map command_for js
map-more [] js = refl
map-more (k ∷ ks) js = ap (λ (l : List Command). command_for k ∷ l) (map-more ks js)

-- what one command leaves, from what is kept of it
registration_again : (lists : Lists) (subject text : List ℕ) (schema : Declaration) (known : Bool) → declaration_of text ≡ Ok schema
    → is_some (with_text schema.text lists.schemas (versions_of subject lists.entries)) ≡ known
    → taken_all lists (map command_for (if known then [] else KeptRegistration (id_for schema lists.schemas) subject text ∷ [])) ≡ (if known then lists else with_version lists subject schema)
registration_again lists subject text schema true declares is = refl
registration_again lists subject text schema false declares is = rw (declares, is)

again_registered : (lists : Lists) (subject text : List ℕ) (declared : Result Declaration SchemaError) → declaration_of text ≡ declared
    → taken_all lists (map command_for (registration_kept lists subject text declared)) ≡ registered lists subject declared
again_registered lists subject text (Ok schema) declares = registration_again lists subject text schema (is_some (with_text schema.text lists.schemas (versions_of subject lists.entries))) declares refl
again_registered lists subject text (Err e) declares = refl

pub again : (lists : Lists) (c : Command) → taken_all lists (map command_for (kept_of lists c)) ≡ taken lists c
again lists (RegisterCommand subject text) = again_registered lists subject text (declaration_of text) refl
again lists (SetLevelCommand subject level) = refl
again lists (LookupCommand subject text) = refl
again lists (CheckCommand subject version text) = refl
again lists (VersionsCommand subject) = refl
again lists (VersionCommand subject version) = refl
again lists SubjectsCommand = refl
again lists (SchemaCommand id) = refl
again lists (LevelCommand subject) = refl

replayed_from : (lists : Lists) (cs : List Command) → taken_all lists (map command_for (kept_from lists cs)) ≡ taken_all lists cs
replayed_from lists [] = refl
replayed_from lists (c ∷ cs) =
    ap (taken_all lists) (map-more (kept_of lists c) (kept_from (taken lists c) cs))
    ∙ taken_all-more lists (map command_for (kept_of lists c)) (map command_for (kept_from (taken lists c) cs))
    ∙ ap (λ (ls : Lists). taken_all ls (map command_for (kept_from (taken lists c) cs))) (again lists c)
    ∙ replayed_from (taken lists c) cs

-- the registry that what was kept makes is the registry
pub replayed : (commands : List Command) → registry_after (map command_for (kept_in commands)) ≡ registry_after commands
replayed commands = replayed_from no_lists commands

-- one command more
pub kept-more : (lists : Lists) (cs : List Command) (c : Command) → kept_from lists (cs ++ c ∷ []) ≡ kept_from lists cs ++ kept_of (taken_all lists cs) c
kept-more lists [] c = append-nil (kept_of lists c)
kept-more lists (d ∷ cs) c = ap (λ (l : List KeptCommand). kept_of lists d ++ l) (kept-more (taken lists d) cs c) ∙ sym (append_assoc (kept_of lists d) (kept_from (taken lists d) cs) (kept_of (taken_all (taken lists d) cs) c))
