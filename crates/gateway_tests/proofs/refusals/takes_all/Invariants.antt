use Rattle.std.proofs.Common.{◌≡◌}
use Rattle.spec_registry.specs.Receipt.{IsReceiptOf}
use Rattle.session_pool.specs.Seats.{Rests}
use Rattle.gateway_tests.proofs.refusals.takes_all.Given as goal

abbrev pub invariant-loop : goal.invariant-loop
invariant-loop l = Rests l.pool l.seat × (l.receipt ≡ l.fn.receipt) × IsReceiptOf l.pool.cache.now l.again
