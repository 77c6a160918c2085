use Rattle.std.proofs.Common.{[]}
use Rattle.session_pool_slots.specs.Results.{HasSame, IsUnready, Searched}
use Rattle.session_pool_slots.specs.Seats.{Rests, knows}
use Rattle.session_pool_slots.proofs.slots.SessionSlots.scan.Given as goal

abbrev pub invariant-loop-slot : goal.invariant-loop-slot
invariant-loop-slot l = Rests l.self l.seat × HasSame (knows l.initial.seat) (knows l.seat)
    × Searched IsUnready (knows l.initial.seat) l.slot [] (knows l.seat)
