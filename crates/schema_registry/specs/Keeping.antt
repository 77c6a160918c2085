-- Which commands a registry has to find again after a restart. This project's own.
use Rattle.std.specs.Prelude.{◌≡◌, ◌⊎◌, ℕ, List, [], ◌∷◌, ◌++◌, Bool, true, false, is_some, if◌then◌else◌, Option, Some, None, MatchOption, Result, Ok, Err, ⊤}
use Rattle.spec_schema.specs.declared.schema_error.SchemaError.{SchemaError}
use Rattle.spec_schema.specs.Schema.{Declaration}
use Rattle.spec_registry.specs.declared.level.Level.{Level}
use Rattle.schema_registry.specs.declared.decision.Decision.{Decision}
use Rattle.schema_registry.specs.declared.decision.Decision.TheVariants.{Known, New}
use Rattle.spec_registry.specs.Command.{Command, IsQuestion, RegisterCommand, SetLevelCommand, LookupCommand, CheckCommand, VersionsCommand, VersionCommand, SubjectsCommand, SchemaCommand, LevelCommand}
use Rattle.spec_registry.specs.Lists.{Lists, level_of, no_lists, versions_of, with_text}
use Rattle.spec_registry.specs.Accepting.{declaration_of, id_for, registry_after, taken}
use Rattle.spec_registry.specs.Answer.{AreSafe, IsAnswer}
use Rattle.spec_registry.specs.Answers.{answer_to, is_full, pairs_of}
use Rattle.spec_registry.specs.Reply.{Reply}
use Rattle.schema_registry.specs.Tables.{entry_of}

-- ---- deciding what becomes of a registration

-- a schema that the subject lacks may be a version of it
pub record MayAdd (lists : Lists) (subject : List ℕ) (schema : Declaration) : Type 0 where
  pub lacking : with_text schema.text lists.schemas (versions_of subject lists.entries) ≡ None
  pub safe : AreSafe (pairs_of lists (level_of (Some subject) lists.levels) schema (versions_of subject lists.entries))
  pub room : is_full lists schema subject ≡ false

-- a version of the subject has the schema, under this id
pub record HasVersion (lists : Lists) (subject : List ℕ) (schema : Declaration) (id : ℕ) : Type 0 where
  pub number : ℕ
  pub found : with_text schema.text lists.schemas (versions_of subject lists.entries)
      ≡ Some (entry_of subject number id)

-- the subject has the schema under the id; or it may be added, and the id is the one that it then has
abbrev pub IsDecision : Lists → List ℕ → Declaration → Decision → Type 0
IsDecision lists subject schema (Known id) = HasVersion lists subject schema id
IsDecision lists subject schema (New id) = MayAdd lists subject schema × (id ≡ id_for schema lists.schemas)

-- ---- what is kept of a command

pub data KeptCommand : Type 0 where
  -- a registration: the id that is answered, the subject and the text
  KeptRegistration : ℕ → List ℕ → List ℕ → KeptCommand
  -- a level that is set, for a subject or for all
  KeptLevel : Option (List ℕ) → Level → KeptCommand

-- what is asked again at the next start
abbrev pub command_for : KeptCommand → Command
command_for (KeptRegistration id subject text) = RegisterCommand subject text
command_for (KeptLevel subject level) = SetLevelCommand subject level

-- a registration is kept where it makes a version
abbrev pub registration_kept : Lists → List ℕ → List ℕ → Result Declaration SchemaError → List KeptCommand
registration_kept lists subject text (Ok schema) =
    if is_some (with_text schema.text lists.schemas (versions_of subject lists.entries)) then []
    else KeptRegistration (id_for schema lists.schemas) subject text ∷ []
registration_kept lists subject text (Err e) = []

-- what is kept of a command that is accepted; of a question nothing
abbrev pub kept_of : Lists → Command → List KeptCommand
kept_of lists (RegisterCommand subject text) = registration_kept lists subject text (declaration_of text)
kept_of lists (SetLevelCommand subject level) = KeptLevel subject level ∷ []
kept_of lists (LookupCommand subject text) = []
kept_of lists (CheckCommand subject version text) = []
kept_of lists (VersionsCommand subject) = []
kept_of lists (VersionCommand subject version) = []
kept_of lists SubjectsCommand = []
kept_of lists (SchemaCommand id) = []
kept_of lists (LevelCommand subject) = []

abbrev pub kept_from : Lists → List Command → List KeptCommand
kept_from lists [] = []
kept_from lists (c ∷ cs) = kept_of lists c ++ kept_from (taken lists c) cs

-- what is kept of the commands that a registry has accepted, in their order
abbrev pub kept_in : List Command → List KeptCommand
kept_in commands = kept_from no_lists commands

-- ---- what a crash leaves

-- what is kept of these commands, or of one more that would have been accepted
abbrev pub IsLeft : List Command → List KeptCommand → Type 0
IsLeft commands left =
    (left ≡ kept_in commands) ⊎ ((c : Command) × (reply : Reply)
    × IsAnswer (answer_to (registry_after commands) c) (Ok reply)
    × (left ≡ kept_in commands ++ kept_of (registry_after commands) c))

-- A keeper has what is to be kept of these commands, while it takes more; and a crash leaves that, or one command more,
-- and nothing that is of no commands.
pub record IsKept {K : Type 0} (keeps leaves : K → List KeptCommand → Type 0) (spoils : K → Type 0) (is_open : K → Bool)
    (keeper : K) (commands : List Command) : Type 0 where
  pub whole : is_open keeper ≡ true → keeps keeper (kept_in commands)
  pub crash : (left : List KeptCommand) → leaves keeper left → IsLeft commands left
  pub readable : ¬ (spoils keeper)

-- the commands that a registry has accepted, beside their keeper
pub record WithKeeper (K : Type 0) : Type 0 where
  pub registry : List Command
  pub keeper : K

-- a command would be accepted, and the keeper failed, or memory ran out for what is kept of the level of all
pub record MayFail {K : Type 0} (fails : K → K → KeptCommand → Type 0)
    (lists : Lists) (c : Command) (old new : K) : Type 0 where
  pub reply : Reply
  pub accepted : IsAnswer (answer_to lists c) (Ok reply)
  pub changes : ¬ (IsQuestion c)
  pub why : ((k : KeptCommand) × (kept_of lists c ≡ k ∷ []) × fails old new k)
      ⊎ ((level : Level) × (c ≡ SetLevelCommand None level))

-- ---- a keeper that may be absent

-- it has these, or there is none
abbrev pub KeepsIfSome : {K : Type 0} → (K → List KeptCommand → Type 0) → Option K → List KeptCommand → Type 0
KeepsIfSome keeps keeper ks = MatchOption keeper ⊤ (λ k. keeps k ks)

-- a crash may leave these of it; of none it leaves nothing
abbrev pub LeavesIfSome : {K : Type 0} → (K → List KeptCommand → Type 0) → Option K → List KeptCommand → Type 0
LeavesIfSome leaves keeper left = MatchOption keeper ⊥ (λ k. leaves k left)

-- a crash may spoil what it has; of none it spoils nothing
abbrev pub SpoilsIfSome : {K : Type 0} → (K → Type 0) → Option K → Type 0
SpoilsIfSome spoils keeper = MatchOption keeper ⊥ spoils

-- a call failed to keep a command, which it does only where there is one
abbrev pub FailsIfSome : {K : Type 0} → (K → K → KeptCommand → Type 0) → Option K → Option K → KeptCommand → Type 0
FailsIfSome fails old new k = MatchOption old ⊥ (λ o. MatchOption new ⊥ (λ n. fails o n k))
