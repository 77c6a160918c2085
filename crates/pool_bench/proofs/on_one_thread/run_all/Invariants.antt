use Rattle.std.proofs.Common.{◌≡◌}
use Rattle.session_pool.specs.Seats.{Rests, RestsWorker}
use Rattle.pool_bench.proofs.on_one_thread.run_all.Given as goal

abbrev pub invariant-loop : goal.invariant-loop
invariant-loop l =
    Rests l.pool l.seats.client
    × RestsWorker l.pool l.seats.worker
    × (l.writer ≡ l.fn.writer)
    × (l.reader ≡ l.fn.reader)
