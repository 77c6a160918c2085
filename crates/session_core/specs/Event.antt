-- The event that a value of the code is. This project's own.
use Rattle.std.specs.Prelude.{option_map, string_bytes}
use Rattle.spec_registry.specs.declared.level.Level.{Level}
use Rattle.session_core.specs.declared.event.Event as rust
use Rattle.session_core.specs.declared.event.Event.TheVariants as events
use Rattle.session_core.specs.declared.act.Act as asked
use Rattle.session_core.specs.declared.act.Act.TheVariants as acts
use Rattle.spec_sessions.specs.Event.{Act, Piece, Finish, Slice, Steal, Break, Clear, Walk, Go, Refuse, Event, Register, SetLevel, Publish, Begin, On}

-- what happens to a session, as a value of the program has it
abbrev pub act_of : asked.Act → Act
act_of (acts.Piece bytes) = Piece bytes.items
act_of acts.Finish = Finish
act_of (acts.Slice worker rows) = Slice worker rows
act_of (acts.Steal worker) = Steal worker
act_of (acts.Break address) = Break address
act_of (acts.Clear address) = Clear address
act_of (acts.Walk rows) = Walk rows
act_of (acts.Go rows) = Go rows
act_of acts.Refuse = Refuse

-- the event that a value of the program represents
abbrev pub event_of : rust.Event → Event
event_of (events.Register subject text) = Register (string_bytes subject) (string_bytes text)
event_of (events.Level subject level) = SetLevel (option_map string_bytes subject) level
event_of (events.Publish writer reader) = Publish writer reader
event_of (events.Begin writer reader) = Begin writer reader
event_of (events.On session act) = On session (act_of act)
