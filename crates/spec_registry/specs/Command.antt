-- What a registry is asked. Texts are lists of bytes. This project's own.
use Rattle.std.specs.Prelude.{ℕ, List, Option}
use Rattle.spec_registry.specs.declared.version.Version.{Version}
use Rattle.spec_registry.specs.declared.level.Level.{Level}

pub data Command : Type 0 where
  -- the subject, and a schema's text
  RegisterCommand : List ℕ → List ℕ → Command
  -- no subject: the global level
  SetLevelCommand : Option (List ℕ) → Level → Command
  LookupCommand : List ℕ → List ℕ → Command
  CheckCommand : List ℕ → Version → List ℕ → Command
  VersionsCommand : List ℕ → Command
  VersionCommand : List ℕ → Version → Command
  SubjectsCommand : Command
  -- the id
  SchemaCommand : ℕ → Command
  LevelCommand : Option (List ℕ) → Command

-- it only asks, and changes nothing
abbrev pub IsQuestion : Command → Type 0
IsQuestion (RegisterCommand subject text) = ⊥
IsQuestion (SetLevelCommand subject level) = ⊥
IsQuestion c = Unit {0}
