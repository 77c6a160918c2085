-- The steps so far happened, one reply each.
use Rattle.std.proofs.Common.{◌≡◌, length, map, take}
use Rattle.session_core.specs.Event.{event_of}
use Rattle.spec_sessions.specs.Happening.{Happened}
use Rattle.session_core.specs.Happening.{steps_of}
use Rattle.session_core.proofs.running.take_events.Given as goal

abbrev pub invariant-loop-event : goal.invariant-loop-event
invariant-loop-event g = λ l. (length l.replies.items ≡ l.event-index) × Happened (steps_of (map event_of (take l.event-index l.events)) l.replies.items) l.fn.world l.world
