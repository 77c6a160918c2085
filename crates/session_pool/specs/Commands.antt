-- Which acts of a session a debugger asks for. All of this is this project's own.
use Rattle.std.specs.Prelude.{Option, Some, None}
use Rattle.spec_sessions.specs.Event.{Act, Break, Clear, Go, Walk}
use Rattle.session_pool.specs.declared.debugging.DebugCommand.{DebugCommand}
use Rattle.session_pool.specs.declared.debugging.DebugCommand.TheVariants as ask

-- the command that an act is, where it is one
abbrev pub command_of : Act → Option DebugCommand
command_of (Break address) = Some (ask.Set address)
command_of (Clear address) = Some (ask.Clear address)
command_of (Walk limit) = Some (ask.Step limit)
command_of (Go limit) = Some (ask.Go limit)
command_of act = None
