-- The seat rests between two turns.
use Rattle.session_pool.specs.Seats.{RestsWorker}
use Rattle.gateway_tests.proofs.leaving.turns_left.Given as goal

abbrev pub invariant-loop-turns : goal.invariant-loop-turns
invariant-loop-turns l = RestsWorker l.pool l.seat
