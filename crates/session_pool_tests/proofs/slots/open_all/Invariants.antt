use Rattle.std.proofs.Common.{◌≡◌}
use Rattle.spec_registry.specs.Receipt.{IsReceiptOf}
use Rattle.session_pool.specs.Seats.{Rests}
use Rattle.session_pool_tests.proofs.slots.open_all.Given as goal

abbrev pub invariant-loop-sessions : goal.invariant-loop-sessions
invariant-loop-sessions l = Rests l.pool l.seat × (l.receipt ≡ l.fn.receipt) × IsReceiptOf l.pool.cache.now l.again
