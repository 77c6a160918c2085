use Rattle.session_pool.specs.Seats.{IsPassOf, Rests}
use Rattle.session_pool_tests.proofs.again.answered_again.Given as goal

abbrev pub invariant-loop-one : goal.invariant-loop-one
invariant-loop-one l = Rests l.pool l.seat × IsPassOf l.seat l.pass
