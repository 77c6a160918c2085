use Rattle.std.proofs.Common.{◌≡◌, []}
use Rattle.session_pool_slots.specs.Results.{HasSame, IsOccupied, Searched}
use Rattle.session_pool_slots.specs.Seats.{Rests, knows}
use Rattle.session_pool_slots.proofs.slots.SessionSlots.begin.Given as goal

abbrev pub invariant-loop-slot : goal.invariant-loop-slot
invariant-loop-slot l = Rests l.self l.seat × (l.offer ≡ l.initial.offer)
    × HasSame (knows l.initial.seat) (knows l.seat) × Searched IsOccupied (knows l.initial.seat) l.slot [] (knows l.seat)
