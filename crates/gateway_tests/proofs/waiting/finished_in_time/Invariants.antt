use Rattle.session_pool.specs.Seats.{IsPassOf, Rests}
use Rattle.gateway_tests.proofs.waiting.finished_in_time.Given as goal

abbrev pub invariant-loop : goal.invariant-loop
invariant-loop l = Rests l.pool l.seat × IsPassOf l.seat l.pass
