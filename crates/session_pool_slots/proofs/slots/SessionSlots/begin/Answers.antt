use Rattle.std.proofs.Common.{rules}
use Rattle.session_pool_slots.specs.Results.{IsOccupied}
use Rattle.session_pool_slots.proofs.Calls.{searched_more, same_on}
use Rattle.session_pool_slots.proofs.Begun.{has_begun}
use Rattle.session_pool_slots.proofs.slots.SessionSlots.begin.Goals as goal

pub fill-requires-clause-claimed : goal.fill-requires-clause-claimed
fill-requires-clause-claimed c = let t = c.claim_at.ensures.claimed c.if-claim_at-eq-FREE.true _ (search rules) in
    record { inside = c.loop-slot-test.true; pass = t.claimed.pass; kept = t.kept; holds = t.holds }

pub returns-then-claim_at-eq-FREE-clause-begun : goal.returns-then-claim_at-eq-FREE-clause-begun
returns-then-claim_at-eq-FREE-clause-begun c = let inv = c.loop-slot.invariant in let hit = c.if-claim_at-eq-FREE.true in
    has_begun c.args.seat.now c.loop-slot.seat c.claim_at.new.seat c.fill.new.seat _ _ c.loop-slot-test.true inv.2 inv.3 (c.claim_at.ensures.found hit) (c.claim_at.ensures.claimed hit _ (search rules)) c.fill.ensures.gave

pub loop-slot-preserved : goal.loop-slot-preserved
loop-slot-preserved c = let inv = c.loop-slot.invariant in let no = c.claim_at.ensures.not c.if-claim_at-eq-FREE.false in
    ((c.claim_at.ensures.seat, no.holds), inv.1, same_on _ _ _ inv.2 no.same, searched_more IsOccupied _ _ _ _ _ inv.3 no.taken no.found)
