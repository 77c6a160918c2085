use Rattle.std.proofs.Common.{◌≡◌}
use Rattle.session_pool.specs.Seats.{IsPassOf, Rests, RestsWorker}
use Rattle.pool_bench.proofs.on_one_thread.is_answered.Given as goal

abbrev pub invariant-loop : goal.invariant-loop
invariant-loop l =
    Rests l.pool l.client
    × RestsWorker l.pool l.worker
    × IsPassOf l.client l.pass
    × (l.writer ≡ l.fn.writer)
    × (l.reader ≡ l.fn.reader)
