use Rattle.std.proofs.Common.{All}
use Rattle.spec_registry.specs.Receipt.{IsReceiptOf}
use Rattle.session_pool.specs.Seats.{IsNewClient}
use Rattle.session_pool_tests.proofs.threads.all_asking.Given as goal

abbrev pub invariant-loop : goal.invariant-loop
invariant-loop l =
    All (IsNewClient l.pool) l.seats.items
    × IsReceiptOf l.pool.cache.now l.unswapped
    × IsReceiptOf l.pool.cache.now l.swapped
