use Rattle.session_pool.proofs.Orders.{StealsSoFar}
use Rattle.session_pool.proofs.pool.SessionPool.steal_in_turn.Given as goal

abbrev pub invariant-loop-from : goal.invariant-loop-from
invariant-loop-from l = StealsSoFar l.self l.own l.from l.initial.seat l.seat
