use Rattle.std.proofs.Common.{refl}
use Rattle.session_pool.proofs.Outcomes.{finishes}
use Rattle.session_pool.proofs.Passes.{fits_pass, still_kept}
use Rattle.session_pool.proofs.pool.SessionPool.result.Goals as goal

pub returns-then-not-has_ended-clause-still : goal.returns-then-not-has_ended-clause-still
returns-then-not-has_ended-clause-still c =
    still_kept c.args.pass c.args.seat.now c.take_out.new.seat c.give_back.new.seat _ _ c.in-Ok.taken.session c.in-Ok.taken.session c.slot-slot.ensures c.requires.pass c.in-Ok.ensures.taken _ c.give_back.ensures.gave (refl)

pub returns-clause-finished : goal.returns-clause-finished
returns-clause-finished c =
    finishes c.args.pass c.leads_to_outcomes.ensures _ c.in-Ok.taken.session c.come_to-finished.result
    (fits_pass c.args.pass c.args.seat.now c.take_out.new.seat c.take_out.new.seat _ _ c.in-Ok.taken.session c.in-Ok.taken.session c.slot-slot.ensures c.requires.pass c.in-Ok.ensures.taken) c.requires.pass.program c.come_to-finished.ensures.finished
