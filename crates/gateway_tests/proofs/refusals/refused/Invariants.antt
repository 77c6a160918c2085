-- The seat rests between two requests.
use Rattle.session_pool.specs.Seats.{Rests}
use Rattle.gateway_tests.proofs.refusals.refused.Given as goal

abbrev pub invariant-loop : goal.invariant-loop
invariant-loop g l = Rests l.app.pool.now l.seat
