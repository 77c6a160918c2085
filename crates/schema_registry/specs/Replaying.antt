-- What is done of commands that were kept, at a start. This project's own.
use Rattle.std.specs.Prelude.{◌≡◌, ◌≢◌, ℕ, List, [], ◌∷◌, map, Err}
use Rattle.registry_store.specs.Stored.{Stored, Registered, LevelSet}
use Rattle.registry_store.specs.declared.stored.StoredCommand.{StoredCommand}
use Rattle.registry_store.specs.Stored as lines
use Rattle.schema_registry.specs.declared.registry.replaying.ReplayFault.{ReplayFault}
use Rattle.schema_registry.specs.declared.registry.replaying.ReplayFault.TheVariants.{Refused, OtherId, KnownAlready}
use Rattle.schema_registry.specs.Answer.{Gives}
use Rattle.spec_registry.specs.Answers.{AreAccepted, answer_to}
use Rattle.spec_registry.specs.Command.{Command}
use Rattle.schema_registry.specs.Keeping.{KeptCommand, KeptLevel, KeptRegistration, command_for, kept_in, kept_of}
use Rattle.spec_registry.specs.Level.{level_name}
use Rattle.spec_registry.specs.Lists.{Lists}

-- a registration with another id
abbrev pub with_id : ℕ → KeptCommand → KeptCommand
with_id id (KeptRegistration old subject text) = KeptRegistration id subject text
with_id id (KeptLevel subject level) = KeptLevel subject level

-- The registry refuses the command; or what would be kept of it now has another id; or nothing would be kept of it.
abbrev pub IsWhyNotReplayed : Lists → KeptCommand → ReplayFault → Type 0
IsWhyNotReplayed lists k (Refused refusal) = Gives (answer_to lists (command_for k)) (Err refusal)
IsWhyNotReplayed lists k (OtherId id) = (kept_of lists (command_for k) ≡ with_id id k ∷ []) × (with_id id k ≢ k)
IsWhyNotReplayed lists k KnownAlready = kept_of lists (command_for k) ≡ []

-- ---- what a file has of commands

abbrev pub stored_as : KeptCommand → Stored
stored_as (KeptRegistration id subject text) = Registered id subject text
stored_as (KeptLevel subject level) = LevelSet subject (level_name level)

-- what is stored of the commands that a registry has accepted
abbrev pub stored_in : List Command → List Stored
stored_in commands = map stored_as (kept_in commands)

abbrev pub stored_all : List StoredCommand → List Stored
stored_all commands = map lines.stored_of commands

-- no registry's file has these: they are not what is kept of commands each of which was accepted in its turn
abbrev pub AreOfNoRegistry : List Stored → Type 0
AreOfNoRegistry stored = (commands : List Command) → AreAccepted commands → stored_in commands ≢ stored
