use Rattle.session_pool.specs.Seats.{RestsWorker}
use Rattle.pool_bench.proofs.by_threads.work.Given as goal

abbrev pub invariant-loop : goal.invariant-loop
invariant-loop l = RestsWorker l.pool l.seat
