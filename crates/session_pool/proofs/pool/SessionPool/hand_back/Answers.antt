use Rattle.session_pool_slots.specs.Seats.{knows}
use Rattle.session_pool.proofs.Obeyed.{out_kept}
use Rattle.session_pool.proofs.pool.SessionPool.hand_back.Goals as goal

pub give_back-requires-clause-pass : goal.give_back-requires-clause-pass
give_back-requires-clause-pass c = out_kept (knows c.args.seat.now) c.args.slot c.args.session c.args.tells c.requires.pass c.if-tells.false
