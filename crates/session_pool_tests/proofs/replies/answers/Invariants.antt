use Rattle.session_pool.specs.Seats.{IsPassOf, Rests}
use Rattle.session_pool_tests.proofs.replies.answers.Given as goal

abbrev pub invariant-loop-command : goal.invariant-loop-command
invariant-loop-command l = Rests l.pool l.seat × IsPassOf l.seat l.pass
