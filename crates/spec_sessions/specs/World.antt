-- A world of sessions: what its registry accepted, which pairs are published, and its sessions.
-- All of this is this project's own.
use Rattle.std.specs.Prelude.{ℕ, ◌==◌, ◌&&◌, List, [], find, Bool, Option, option_map}
use Rattle.spec_schema.specs.Schema.{Declaration}
use Rattle.spec_machine.specs.Program.{Program}
use Rattle.spec_registry.specs.Accepting.{registry_after}
use Rattle.spec_registry.specs.Command.{Command}
use Rattle.spec_registry.specs.Lists.{numbered}
use Rattle.spec_sessions.specs.Session.{Session}

-- a published pair, by the ids of its schemas, and its program
pub record Publication : Type 0 where
  pub writer : ℕ
  pub reader : ℕ
  pub program : Program

-- a session, the worker that holds it, and the ids of its pair
pub record Held : Type 0 where
  pub holder : ℕ
  pub writer : ℕ
  pub reader : ℕ
  pub session : Session

pub record World : Type 0 where
  -- what the registry accepted, in order
  pub commands : List Command
  pub published : List Publication
  -- by their numbers, from 0
  pub sessions : List Held

abbrev pub no_world : World
no_world = record { commands = []; published = []; sessions = [] }

-- the schema with an id, after these commands
abbrev pub schema_after : List Command → ℕ → Option Declaration
schema_after commands id = numbered (registry_after commands).schemas id

abbrev pub schema_at : ℕ → World → Option Declaration
schema_at id world = schema_after world.commands id

abbrev pub is_of : ℕ → ℕ → Publication → Bool
is_of writer reader p = p.writer == writer && p.reader == reader

-- the program of a published pair
abbrev pub program_at : ℕ → ℕ → World → Option Program
program_at writer reader world =
    option_map (λ (p : Publication). p.program) (find (is_of writer reader) world.published)
