-- The commands that a registry's file holds: those that changed the registry. This project's own.
use Rattle.std.specs.Prelude.{ℕ, ◌<◌, ◌^◌, List, Option, option_map, string_bytes, IfSome}
use Rattle.std.specs.Str.{IsUtf8}
use Rattle.registry_store.specs.declared.stored.StoredCommand.{StoredCommand}
use Rattle.registry_store.specs.declared.stored.StoredCommand.TheVariants.{Registration, Level}

pub data Stored : Type 0 where
  -- a schema got this id: the id, the subject and the schema's text
  Registered : ℕ → List ℕ → List ℕ → Stored
  -- a compatibility level was set: the subject, where none is the global level, and the level's name
  LevelSet : Option (List ℕ) → List ℕ → Stored

-- the command that a value of the program says
abbrev pub stored_of : StoredCommand → Stored
stored_of (Registration id subject text) = Registered id (string_bytes subject) (string_bytes text)
stored_of (Level subject level) = LevelSet (option_map string_bytes subject) (string_bytes level)

-- the subject, where there is one, is text
abbrev pub IsSubject : Option (List ℕ) → Type 0
IsSubject subject = IfSome subject IsUtf8

-- an id has 32 bits, and every text is UTF-8
abbrev pub MayBeStored : Stored → Type 0
MayBeStored (Registered id subject text) = (id < 2 ^ 32) × IsUtf8 subject × IsUtf8 text
MayBeStored (LevelSet subject level) = IsSubject subject × IsUtf8 level
