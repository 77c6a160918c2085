use Rattle.session_pool.specs.Order.{KeepsFurther}
use Rattle.session_pool.specs.Searching.{LooksOn}
use Rattle.session_pool.specs.JobSeats.{IsSeatOf}
use Rattle.session_pool_slots.specs.Seats.{IsSeatOf as IsSlotSeatOf}
use Rattle.session_pool.proofs.pool.SessionPool.keep_further.Given as goal

abbrev pub invariant-loop-slot : goal.invariant-loop-slot
invariant-loop-slot l = IsSeatOf l.self.jobs l.seat.jobs × IsSlotSeatOf l.self.slots l.seat.slots
    × LooksOn l.initial.seat.slots l.seat.slots × KeepsFurther l.from l.slot l.initial.seat l.seat
