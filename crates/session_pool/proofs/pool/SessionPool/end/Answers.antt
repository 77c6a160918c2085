use Rattle.std.proofs.Common.{ap}
use Rattle.spec_sessions.specs.Session.{Session}
use Rattle.session_pool.proofs.Passes.{still_kept}
use Rattle.session_pool.proofs.pool.SessionPool.end.Goals as goal

pub returns-clause-pass : goal.returns-clause-pass
returns-clause-pass c =
    still_kept c.args.pass.now c.args.seat.now c.take_out.new.seat c.give_back.new.seat _ _ c.in-Ok.taken.session c.finish.new.self c.slot-slot.ensures c.requires.pass c.in-Ok.ensures.taken _ c.give_back.ensures.gave (ap (λ (s : Session). s.program) c.finish.ensures)
