use Rattle.session_pool.specs.Seats.{RestsWorker}
use Rattle.session_pool_tests.proofs.again.taken_in_turns.Given as goal

abbrev pub invariant-loop : goal.invariant-loop
invariant-loop l = RestsWorker l.pool l.worker
