use Rattle.session_pool.specs.Seats.{IsPassOf, Rests}
use Rattle.session_pool_tests.proofs.rows.set_breaks.Given as goal

abbrev pub invariant-loop-address : goal.invariant-loop-address
invariant-loop-address l = Rests l.pool l.seat × IsPassOf l.seat l.pass
