use Rattle.std.proofs.Common.{◌≡◌, All}
use Rattle.session_pool.specs.Seats.{IsNewClient}
use Rattle.pool_bench.proofs.by_threads.all_asking.Given as goal

abbrev pub invariant-loop-client : goal.invariant-loop-client
invariant-loop-client l =
    All (IsNewClient l.pool) l.seats.items
    × (l.writer ≡ l.fn.writer)
    × (l.reader ≡ l.fn.reader)
