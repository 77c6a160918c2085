-- A world of sessions: what its registry accepted, which pairs are published, and its sessions.
-- All of this is this project's own.
use Rattle.std.specs.Prelude.{◌≡◌, ℕ, List, Some}
use Rattle.spec_schema.specs.Schema.{Declaration}
use Rattle.spec_machine.specs.Program.{Program}
use Rattle.spec_machine.specs.Code.{code_of}
use Rattle.spec_registry.specs.Command.{Command}
use Rattle.spec_sessions.specs.World.{schema_after}

-- ---- what holds of every world

-- the program is that of the schemas of these ids
pub record IsCodeOf (commands : List Command) (writer reader : ℕ) (P : Program) : Type 0 where
  pub written : Declaration
  pub read : Declaration
  pub writer_is : schema_after commands writer ≡ Some written
  pub reader_is : schema_after commands reader ≡ Some read
  pub code : code_of written.nodes read.nodes ≡ Some P
