use Rattle.spec_registry.specs.Receipt.{IsReceiptOf}
use Rattle.session_pool.specs.Seats.{Rests}
use Rattle.session_pool_tests.proofs.slots.open_three.Given as goal

abbrev pub invariant-loop : goal.invariant-loop
invariant-loop l = Rests l.pool l.seat × IsReceiptOf l.pool.cache.now l.receipt × IsReceiptOf l.pool.cache.now l.again
