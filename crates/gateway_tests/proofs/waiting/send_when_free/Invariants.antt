use Rattle.session_pool.specs.Seats.{IsPassOf, Rests}
use Rattle.gateway_tests.proofs.waiting.send_when_free.Given as goal

abbrev pub invariant-loop : goal.invariant-loop
invariant-loop l = Rests l.pool l.seat × IsPassOf l.seat l.pass
