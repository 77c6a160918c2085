-- What was kept is accepted again, and the same is kept of it.
use Rattle.std.proofs.Common.{◌≡◌, ◌⊎◌, inl, inr, ℕ, List, [], ◌∷◌, ◌++◌, map, Bool, true, false, is_some, if◌then◌else◌, Result, Ok, Err, refl, sym, ◌∙◌, ap, subst}
use Rattle.std.proofs.lemmas.List.{append-nil}
use Rattle.spec_schema.specs.declared.schema_error.SchemaError.{SchemaError}
use Rattle.spec_schema.specs.Schema.{Declaration}
use Rattle.spec_registry.specs.Command.{Command, RegisterCommand, SetLevelCommand, LookupCommand, CheckCommand, VersionsCommand, VersionCommand, SubjectsCommand, SchemaCommand, LevelCommand}
use Rattle.spec_registry.specs.Lists.{Lists, no_lists, versions_of, with_text}
use Rattle.spec_registry.specs.Reply.{Reply}
use Rattle.spec_registry.specs.Answer.{IsAnswer}
use Rattle.spec_registry.specs.Answers.{AreAccepted, no_command, one_more, answer_to}
use Rattle.spec_registry.specs.Accepting.{declaration_of, id_for, registry_after, taken, taken_all}
use Rattle.schema_registry.specs.Keeping.{KeptCommand, KeptRegistration, KeptLevel, command_for, registration_kept, kept_of, kept_from, kept_in}
use Rattle.schema_registry.proofs.Replayed.{again, map-more, kept-more, replayed}

-- nothing is kept of a command, or itself
abbrev pub Few : List KeptCommand → Command → Type 0
Few ks c = (ks ≡ []) ⊎ ((k : KeptCommand) × (ks ≡ k ∷ []) × (command_for k ≡ c))

few_if : (known : Bool) (id : ℕ) (subject text : List ℕ) → Few (if known then [] else KeptRegistration id subject text ∷ []) (RegisterCommand subject text)
few_if true id subject text = inl refl
few_if false id subject text = inr (KeptRegistration id subject text, refl, refl)

few_registered : (lists : Lists) (subject text : List ℕ) (declared : Result Declaration SchemaError) → Few (registration_kept lists subject text declared) (RegisterCommand subject text)
few_registered lists subject text (Ok schema) = few_if (is_some (with_text schema.text lists.schemas (versions_of subject lists.entries))) (id_for schema lists.schemas) subject text
few_registered lists subject text (Err e) = inl refl

pub few : (lists : Lists) (c : Command) → Few (kept_of lists c) c
few lists (RegisterCommand subject text) = few_registered lists subject text (declaration_of text)
few lists (SetLevelCommand subject level) = inr (KeptLevel subject level, refl, refl)
few lists (LookupCommand subject text) = inl refl
few lists (CheckCommand subject version text) = inl refl
few lists (VersionsCommand subject) = inl refl
few lists (VersionCommand subject version) = inl refl
few lists SubjectsCommand = inl refl
few lists (SchemaCommand id) = inl refl
few lists (LevelCommand subject) = inl refl

kept_step : (lists : Lists) (c : Command) (rest : List KeptCommand) → Few (kept_of lists c) c → kept_from (taken lists c) (map command_for rest) ≡ rest
    → kept_from lists (map command_for (kept_of lists c ++ rest)) ≡ kept_of lists c ++ rest
kept_step lists c rest (inl none) same =
    let still : lists ≡ taken lists c = ap (λ (ks : List KeptCommand). taken_all lists (map command_for ks)) (sym none) ∙ again lists c in
    ap (λ (ks : List KeptCommand). kept_from lists (map command_for (ks ++ rest))) none ∙ ap (λ (ls : Lists). kept_from ls (map command_for rest)) still ∙ same
    ∙ ap (λ (ks : List KeptCommand). ks ++ rest) (sym none)
kept_step lists c rest (inr (k, one, is)) same =
    ap (λ (ks : List KeptCommand). kept_from lists (map command_for (ks ++ rest))) one
    ∙ ap (λ (d : Command). kept_of lists d ++ kept_from (taken lists d) (map command_for rest)) is
    ∙ ap (λ (js : List KeptCommand). kept_of lists c ++ js) same

kept_again_from : (lists : Lists) (cs : List Command) → kept_from lists (map command_for (kept_from lists cs)) ≡ kept_from lists cs
kept_again_from lists [] = refl
kept_again_from lists (c ∷ cs) = kept_step lists c (kept_from (taken lists c) cs) (few lists c) (kept_again_from (taken lists c) cs)

-- the same is kept, with the same ids
pub kept_again : (commands : List Command) → kept_in (map command_for (kept_in commands)) ≡ kept_in commands
kept_again commands = kept_again_from no_lists commands

accepted_step : (commands : List Command) (c : Command) (reply : Reply) → Few (kept_of (registry_after commands) c) c → AreAccepted (map command_for (kept_in commands))
    → IsAnswer (answer_to (registry_after commands) c) (Ok reply) → AreAccepted (map command_for (kept_in commands ++ kept_of (registry_after commands) c))
accepted_step commands c reply (inl none) before answer =
    subst (λ (ks : List KeptCommand). AreAccepted (map command_for ks)) (sym (ap (λ (ks : List KeptCommand). kept_in commands ++ ks) none ∙ append-nil (kept_in commands))) before
accepted_step commands c reply (inr (k, one, is)) before answer =
    let lists = replayed commands in
    let now = subst (λ (ls : Lists). IsAnswer (answer_to ls c) (Ok reply)) (sym lists) answer in
    let same : map command_for (kept_in commands ++ kept_of (registry_after commands) c) ≡ map command_for (kept_in commands) ++ c ∷ [] =
    ap (λ (ks : List KeptCommand). map command_for (kept_in commands ++ ks)) one ∙ map-more (kept_in commands) (k ∷ []) ∙ ap (λ (d : Command). map command_for (kept_in commands) ++ d ∷ []) is in
    subst AreAccepted (sym same) (one_more (map command_for (kept_in commands)) c reply before now)

-- and each of it is accepted in its turn
pub accepted_again : (commands : List Command) → AreAccepted commands → AreAccepted (map command_for (kept_in commands))
accepted_again _ no_command = no_command
accepted_again _ (one_more commands c reply before answer) =
    subst (λ (ks : List KeptCommand). AreAccepted (map command_for ks)) (sym (kept-more no_lists commands c)) (accepted_step commands c reply (few (registry_after commands) c) (accepted_again commands before) answer)
