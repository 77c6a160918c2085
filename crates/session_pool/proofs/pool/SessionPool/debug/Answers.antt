use Rattle.session_pool.proofs.Obeyed.{debugs, leaves, still_passes}
use Rattle.session_pool.proofs.pool.SessionPool.debug.Goals as goal

pub returns-clause-pass : goal.returns-clause-pass
returns-clause-pass c =
    still_passes c.args.command c.args.pass.now c.args.seat.now c.take_out.new.seat c.hand_back.new.seat _ _ c.in-Ok.taken.session c.obey-reply.new.session c.slot-slot.ensures c.requires.pass c.in-Ok.ensures.taken c.obey-reply.result c.obey-reply.ensures c.hand_back.ensures.gave

pub returns-clause-debugs : goal.returns-clause-debugs
returns-clause-debugs c =
    debugs c.args.command c.args.pass.now c.args.seat.now c.take_out.new.seat c.hand_back.new.seat _ _ c.in-Ok.taken.session c.obey-reply.new.session c.slot-slot.ensures c.requires.pass c.in-Ok.ensures.taken c.obey-reply.result c.obey-reply.ensures c.hand_back.ensures.gave

pub returns-clause-left : goal.returns-clause-left
returns-clause-left c =
    leaves c.args.command c.args.pass.now c.args.seat.now c.take_out.new.seat c.hand_back.new.seat _ _ c.in-Ok.taken.session c.obey-reply.new.session c.slot-slot.ensures c.requires.pass c.in-Ok.ensures.taken c.obey-reply.result c.obey-reply.ensures c.hand_back.ensures.gave
