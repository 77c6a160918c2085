-- What a registry and its keeper have of each other.
use Rattle.std.proofs.Common.{◌≡◌, ◌≢◌, ◌⊎◌, inl, inr, ℕ, List, [], ◌∷◌, ◌++◌, map, Bool, true, false, Option, Some, None, Result, Ok, Err, IfErr, OnOk, OnErr, refl, sym, ◌∙◌, ap, subst}
use Rattle.std.proofs.lemmas.List.{append-nil}
use Rattle.spec_schema.specs.Schema.{Declaration}
use Rattle.spec_registry.specs.Command.{Command, IsQuestion, RegisterCommand, SetLevelCommand, LookupCommand, CheckCommand, VersionsCommand, VersionCommand, SubjectsCommand, SchemaCommand, LevelCommand}
use Rattle.schema_registry.specs.Command.{subject_in}
use Rattle.spec_registry.specs.Subject.{is_subject}
use Rattle.spec_registry.specs.Lists.{Lists, no_lists}
use Rattle.spec_registry.specs.Reply.{IdReply, LevelReply}
use Rattle.schema_registry.specs.declared.decision.Decision.{Decision}
use Rattle.schema_registry.specs.declared.decision.Decision.TheVariants.{Known, New}
use Rattle.spec_registry.specs.declared.level.Level.{Level}
use Rattle.spec_registry.specs.Answer.{Answer, IsAnswer}
use Rattle.schema_registry.specs.Answer.{unless_refused}
use Rattle.spec_registry.specs.declared.refusal.Refusal.{Refusal}
use Rattle.spec_registry.specs.declared.refusal.Refusal.TheVariants.{NotStored}
use Rattle.spec_registry.specs.Answers.{answer_to}
use Rattle.spec_registry.specs.Accepting.{declaration_of, id_for, registry_after}
use Rattle.schema_registry.specs.Keeping.{HasVersion, IsDecision, MayFail, KeptCommand, KeptRegistration, KeptLevel, IsLeft, IsKept, command_for, registration_kept, kept_of, kept_in}
use Rattle.schema_registry.specs.Tables.{AsksToRegister}
use Rattle.schema_registry.proofs.Added.{added-answer}
use Rattle.schema_registry.proofs.Told.{registered-answer}
use Rattle.schema_registry.proofs.Replayed.{kept-more, replayed}

-- commands of which the same is kept make the same registry
pub same_kept : (old new : List Command) → kept_in new ≡ kept_in old → registry_after new ≡ registry_after old
same_kept old new same = sym (replayed new) ∙ ap (λ (ks : List KeptCommand). registry_after (map command_for ks)) same ∙ replayed old

-- and a crash leaves the same
pub left_alike : (old new : List Command) (left : List KeptCommand) → kept_in new ≡ kept_in old → IsLeft old left → IsLeft new left
left_alike old new left same is =
    let lists = same_kept old new same in
    rw (same, lists) is

module _ (old : List Command) (subject text : List ℕ) (schema : Declaration) (is : is_subject subject ≡ true) (declares : declaration_of text ≡ Ok schema) where
  abbrev lists : Lists
  lists = registry_after old

  -- a new version is kept under its id, and one that the subject has is not
  pub new_kept : (id : ℕ) → IsDecision lists subject schema (New id) → kept_of lists (RegisterCommand subject text) ≡ KeptRegistration id subject text ∷ []
  new_kept id decided =
      ap (registration_kept lists subject text) declares ∙ rw decided.0.lacking (ap (λ (n : ℕ). KeptRegistration n subject text ∷ []) (sym decided.1))

  pub known_kept : (id : ℕ) → HasVersion lists subject schema id → kept_of lists (RegisterCommand subject text) ≡ []
  known_kept id has = ap (registration_kept lists subject text) declares ∙ rw has.found refl

  pub decided_kept : (decision : Decision) → IsDecision lists subject schema decision → ((id : ℕ) → decision ≢ New id) → kept_of lists (RegisterCommand subject text) ≡ []
  decided_kept (New id) decided known = absurd (known id refl)
  decided_kept (Known id) decided known = known_kept id decided

  pub new_after : (id : ℕ) → IsDecision lists subject schema (New id) → kept_in (old ++ RegisterCommand subject text ∷ []) ≡ kept_in old ++ KeptRegistration id subject text ∷ []
  new_after id decided = kept-more no_lists old (RegisterCommand subject text) ∙ ap (λ (l : List KeptCommand). kept_in old ++ l) (new_kept id decided)

  -- a registration that may be added is accepted
  pub may_register : (id : ℕ) → IsDecision lists subject schema (New id) → IsAnswer (answer_to lists (RegisterCommand subject text)) (Ok (IdReply id))
  may_register id decided =
      subst (λ (n : ℕ). IsAnswer (answer_to lists (RegisterCommand subject text)) (Ok (IdReply n))) (sym decided.1)
      (registered-answer lists subject text schema is declares (IdReply (id_for schema lists.schemas))
      (added-answer lists subject schema decided.0.lacking decided.0.safe decided.0.room (Ok (id_for schema lists.schemas)) refl tt))

  -- a crash may leave it before it is answered
  pub one_more : (id : ℕ) → IsDecision lists subject schema (New id)
      → (left : List KeptCommand) → (left ≡ kept_in old) ⊎ (left ≡ kept_in old ++ KeptRegistration id subject text ∷ []) → IsLeft old left
  one_more id decided left (inl without) = inl without
  one_more id decided left (inr with) = inr (
    RegisterCommand subject text,
    IdReply id,
    may_register id decided,
    with ∙ ap (λ (l : List KeptCommand). kept_in old ++ l) (sym (new_kept id decided)),
  )

-- a text that is registered is one
pub one_text : (s t u v : List ℕ) → RegisterCommand s t ≡ RegisterCommand u v → t ≡ v
one_text s t u v same = cc

module _ {K : Type 0} (keeps leaves : K → List KeptCommand → Type 0) (spoils : K → Type 0) (is_open : K → Bool) where
  -- what a call that kept nothing says
  pub record Failed (old new : K) (extra : List KeptCommand) : Type 0 where
    pub refused : is_open new ≡ true → (ks : List KeptCommand) → keeps old ks → keeps new ks
    pub crash : (ks : List KeptCommand) → keeps old ks → (left : List KeptCommand) → leaves new left → (left ≡ ks) ⊎ (left ≡ ks ++ extra)
    pub readable : (ks : List KeptCommand) → keeps old ks → spoils new → ⊥
    pub closed : is_open old ≡ false → (is_open new ≡ false) × ((left : List KeptCommand) → leaves new left → leaves old left) × (spoils new → spoils old)

  failed_by : (old new : K) (commands : List Command) (extra : List KeptCommand) (b : Bool) → is_open old ≡ b → IsKept keeps leaves spoils is_open old commands
      → Failed old new extra
      → ((left : List KeptCommand) → (left ≡ kept_in commands) ⊎ (left ≡ kept_in commands ++ extra) → IsLeft commands left)
      → IsKept keeps leaves spoils is_open new commands
  failed_by old new commands extra true is kept failed more =
      record {
        whole = λ o. failed.refused o (kept_in commands) (kept.whole is);
        crash = λ left may. more left (failed.crash (kept_in commands) (kept.whole is) left may);
        readable = failed.readable (kept_in commands) (kept.whole is);
      }
  failed_by old new commands extra false is kept failed more =
      let shut = failed.closed is in
      record {
        whole = λ o. let never : ⊥ = cc (o, shut.0) in absurd never;
        crash = λ left may. kept.crash left (shut.1 left may);
        readable = λ spoilt. kept.readable (shut.2 spoilt);
      }

  -- it was not kept
  pub kept_failed : (old new : K) (commands : List Command) (extra : List KeptCommand) → IsKept keeps leaves spoils is_open old commands → Failed old new extra
      → ((left : List KeptCommand) → (left ≡ kept_in commands) ⊎ (left ≡ kept_in commands ++ extra) → IsLeft commands left)
      → IsKept keeps leaves spoils is_open new commands
  kept_failed old new commands extra = failed_by old new commands extra (is_open old) refl

  -- it was kept
  pub kept_done : (new : K) (commands : List Command) → keeps new (kept_in commands) → ((ks left : List KeptCommand) → keeps new ks → leaves new left → left ≡ ks)
      → ((ks : List KeptCommand) → keeps new ks → spoils new → ⊥) → IsKept keeps leaves spoils is_open new commands
  kept_done new commands has only readable =
      record { whole = λ _. has; crash = λ left may. inl (only (kept_in commands) left has may); readable = readable (kept_in commands) has }

  -- nothing was to be kept
  pub kept_same : (keeper : K) (old new : List Command) → kept_in new ≡ kept_in old → IsKept keeps leaves spoils is_open keeper old
      → IsKept keeps leaves spoils is_open keeper new
  kept_same keeper old new same kept =
      record {
        whole = λ o. subst (keeps keeper) (sym same) (kept.whole o);
        crash = λ left may. left_alike old new left same (kept.crash left may);
        readable = kept.readable;
      }

  -- it was taken back
  pub kept_back : (old new : K) (commands : List Command) (k : KeptCommand) → keeps old (kept_in commands ++ k ∷ [])
      → (is_open new ≡ true → (ks : List KeptCommand) (j : KeptCommand) → keeps old (ks ++ j ∷ []) → keeps new ks)
      → ((ks : List KeptCommand) (j : KeptCommand) → keeps old (ks ++ j ∷ []) → (left : List KeptCommand) → leaves new left → (left ≡ ks) ⊎ (left ≡ ks ++ j ∷ []))
      → ((ks : List KeptCommand) (j : KeptCommand) → keeps old (ks ++ j ∷ []) → spoils new → ⊥)
      → ((left : List KeptCommand) → (left ≡ kept_in commands) ⊎ (left ≡ kept_in commands ++ k ∷ []) → IsLeft commands left)
      → IsKept keeps leaves spoils is_open new commands
  kept_back old new commands k has taken crash readable more =
      record {
        whole = λ o. taken o (kept_in commands) k has;
        crash = λ left may. more left (crash (kept_in commands) k has left may);
        readable = readable (kept_in commands) k has;
      }

-- a level that is set is kept
pub level_after : (old : List Command) (subject : Option (List ℕ)) (level : Level) → kept_in (old ++ SetLevelCommand subject level ∷ []) ≡ kept_in old ++ KeptLevel subject level ∷ []
level_after old subject level = kept-more no_lists old (SetLevelCommand subject level)

-- a question is not
pub question_after : (old : List Command) (c : Command) → IsQuestion c → kept_in (old ++ c ∷ []) ≡ kept_in old
question_after old c asks = kept-more no_lists old c ∙ ap (λ (l : List KeptCommand). kept_in old ++ l) (nothing c asks) ∙ append-nil (kept_in old)
  where
    nothing : (c : Command) → IsQuestion c → kept_of (registry_after old) c ≡ []
    nothing (LookupCommand subject text) asks = refl
    nothing (CheckCommand subject version text) asks = refl
    nothing (VersionsCommand subject) asks = refl
    nothing (VersionCommand subject version) asks = refl
    nothing SubjectsCommand asks = refl
    nothing (SchemaCommand id) asks = refl
    nothing (LevelCommand subject) asks = refl
    nothing (RegisterCommand _ _) asks = elim asks [ ]
    nothing (SetLevelCommand _ _) asks = elim asks [ ]

pub one_level_more : (old : List Command) (subject : Option (List ℕ)) (level : Level) → IsAnswer (answer_to (registry_after old) (SetLevelCommand subject level)) (Ok (LevelReply level))
    → (left : List KeptCommand) → (left ≡ kept_in old) ⊎ (left ≡ kept_in old ++ KeptLevel subject level ∷ []) → IsLeft old left
one_level_more old subject level told left (inl without) = inl without
one_level_more old subject level told left (inr with) = inr (SetLevelCommand subject level, LevelReply level, told, with)

-- where nothing is against it, a level is set
pub level_set : (r : Option Refusal) (answer : Answer) (level : Level) → answer ≡ unless_refused r (LevelReply level) → ((e : Refusal) → r ≡ Some e → ⊥)
    → IsAnswer answer (Ok (LevelReply level))
level_set None answer level is none = subst (λ (a : Answer). IsAnswer a (Ok (LevelReply level))) (sym is) refl
level_set (Some e) answer level is none = absurd (none e refl)

pub kept_asked : {T E K : Type 0} (keeps leaves : K → List KeptCommand → Type 0) (spoils : K → Type 0) (is_open : K → Bool) (r : Result T E) (keeper : K) (old new : List Command) (c : Command) → IsQuestion c
    → OnOk r (new ≡ old ++ c ∷ []) → OnErr r (new ≡ old) → IsKept keeps leaves spoils is_open keeper old → IsKept keeps leaves spoils is_open keeper new
kept_asked keeps leaves spoils is_open (Ok x) keeper old new c asks more same kept = kept_same keeps leaves spoils is_open keeper old new (ap kept_in more ∙ question_after old c asks) kept
kept_asked keeps leaves spoils is_open (Err e) keeper old new c asks more same kept = kept_same keeps leaves spoils is_open keeper old new (ap kept_in same) kept

-- nothing is kept of it
pub kept_quiet : {T E K : Type 0} (keeps leaves : K → List KeptCommand → Type 0) (spoils : K → Type 0) (is_open : K → Bool) (r : Result T E) (keeper : K) (old new : List Command) (c : Command) → kept_in (old ++ c ∷ []) ≡ kept_in old
    → OnOk r (new ≡ old ++ c ∷ []) → OnErr r (new ≡ old) → IsKept keeps leaves spoils is_open keeper old → IsKept keeps leaves spoils is_open keeper new
kept_quiet keeps leaves spoils is_open (Ok x) keeper old new c quiet more same kept = kept_same keeps leaves spoils is_open keeper old new (ap kept_in more ∙ quiet) kept
kept_quiet keeps leaves spoils is_open (Err e) keeper old new c quiet more same kept = kept_same keeps leaves spoils is_open keeper old new (ap kept_in same) kept

-- nothing is kept of a registration that is known
pub quiet_again : (old : List Command) (c : Command) (schema : Declaration) (decision : Decision) → AsksToRegister c (subject_in c) schema
    → IsDecision (registry_after old) (subject_in c) schema decision → ((id : ℕ) → decision ≢ New id) → kept_in (old ++ c ∷ []) ≡ kept_in old
quiet_again old c schema decision asks decided known =
    kept-more no_lists old c ∙ ap (λ (l : List KeptCommand). kept_in old ++ l)
    (ap (kept_of (registry_after old)) asks.command_is ∙ decided_kept old (subject_in c) asks.text schema asks.subject_is asks.declares decision decided known)
    ∙ append-nil (kept_in old)

-- what a refusal says beside what is known
pub beside : (A B : Type 0) (r : Result ℕ Refusal) → A → IfErr r (λ e. e ≡ NotStored → B) → IfErr r (λ e. e ≡ NotStored → A × B)
beside A B (Ok id) a b = tt
beside A B (Err e) a b = λ is. (a, b is)

-- a command that was not stored would be accepted
pub may-fail-level : {T K : Type 0} (fails : K → K → KeptCommand → Type 0) (of : Lists) (subject : Option (List ℕ)) (level : Level) (old new : K) (r : Result T Refusal)
    → IfErr r (λ e. e ≡ NotStored → IsAnswer (answer_to of (SetLevelCommand subject level)) (Ok (LevelReply level)) × (fails old new (KeptLevel subject level) ⊎ (subject ≡ None)))
    → IfErr r (λ e. e ≡ NotStored → MayFail fails of (SetLevelCommand subject level) old new)
may-fail-level fails of subject level old new (Ok reply) why = tt
may-fail-level fails of subject level old new (Err e) why = λ is. record {
  reply = LevelReply level;
  accepted = (why is).0;
  changes = λ asks. asks;
  why = at (why is).1;
}
  where
    at : fails old new (KeptLevel subject level) ⊎ (subject ≡ None)
        → ((k : KeptCommand) × (kept_of of (SetLevelCommand subject level) ≡ k ∷ []) × fails old new k) ⊎ ((l : Level) × (SetLevelCommand subject level ≡ SetLevelCommand None l))
    at (inl failed) = inl (KeptLevel subject level, refl, failed)
    at (inr none) = inr (level, ap (λ (s : Option (List ℕ)). SetLevelCommand s level) none)
