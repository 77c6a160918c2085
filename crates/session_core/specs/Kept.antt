-- What holds of every world: each program is that of its pair. All of this is this project's own.
use Rattle.std.specs.Prelude.{List}
use Rattle.std.specs.List.{AllByRecursion}
use Rattle.spec_registry.specs.Command.{Command}
use Rattle.spec_sessions.specs.World.{Held, Publication, World}
use Rattle.session_core.specs.World.{IsCodeOf}

abbrev pub IsPublication : List Command → Publication → Type 0
IsPublication commands p = IsCodeOf commands p.writer p.reader p.program

abbrev pub IsSession : List Command → Held → Type 0
IsSession commands held = IsCodeOf commands held.writer held.reader held.session.program

pub record IsKept (world : World) : Type 0 where
  pub publications : AllByRecursion (IsPublication world.commands) world.published
  pub sessions : AllByRecursion (IsSession world.commands) world.sessions
