use Rattle.std.proofs.Common.{ap, subst}
use Rattle.spec_sessions.specs.Session.{Session}
use Rattle.session_pool_slots.specs.Account.{kept}
use Rattle.session_pool.specs.Seats.{HandsBack}
use Rattle.session_pool.proofs.Passes.{hands_back, still_kept}
use Rattle.session_pool.proofs.pool.SessionPool.piece.Goals as goal

pub returns-in-Err-clause-pass : goal.returns-in-Err-clause-pass
returns-in-Err-clause-pass c =
    still_kept c.args.pass.now c.args.seat.now c.take_out.new.seat c.give_back.new.seat _ _ c.in-Ok.taken.session c.piece_owned.new.self c.slot-slot.ensures c.requires.pass c.in-Ok.ensures.taken _ c.give_back.ensures.gave (ap (λ (s : Session). s.program) c.in-Err.ensures.refused.0)

pub returns-clause-pass : goal.returns-clause-pass
returns-clause-pass c =
    still_kept c.args.pass.now c.args.seat.now c.take_out.new.seat c.give_back-2.new.seat _ _ c.in-Ok.taken.session c.piece_owned.new.self c.slot-slot.ensures c.requires.pass c.in-Ok.ensures.taken _ c.give_back-2.ensures.gave (ap (λ (s : Session). s.program) c.in_default-piece_owned.ensures.ok.1)

pub returns-clause-hands : goal.returns-clause-hands
returns-clause-hands c =
    let y = c.in-Ok.taken.session in
    let x = c.piece_owned.new.self in
    (y, subst (λ (z : Session). HandsBack c.args.seat.now c.args.pass.now y z (record c.args.seat.now { slots = c.give_back-2.new.seat })) c.in_default-piece_owned.ensures.ok.1 (hands_back c.args.pass.now c.args.seat.now c.take_out.new.seat c.give_back-2.new.seat _ _ y x c.slot-slot.ensures c.requires.pass c.in-Ok.ensures.taken kept _ c.give_back-2.ensures.gave))
