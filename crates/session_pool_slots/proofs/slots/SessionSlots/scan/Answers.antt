use Rattle.session_pool_slots.specs.Results.{IsUnready}
use Rattle.session_pool_slots.proofs.Calls.{searched_more, same_on}
use Rattle.session_pool_slots.proofs.slots.SessionSlots.scan.Goals as goal

pub loop-slot-preserved : goal.loop-slot-preserved
loop-slot-preserved c = let inv = c.loop-slot.invariant in let no = c.take_at.ensures.not c.if-take_at-eq-READY.false in
    ((c.take_at.ensures.seat, no.holds), same_on _ _ _ inv.1 c.take_at.ensures.same, searched_more IsUnready _ _ _ _ _ inv.2 no.unready no.found)
