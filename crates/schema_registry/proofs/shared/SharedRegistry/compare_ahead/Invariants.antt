use Rattle.std.proofs.Common.{◌≡◌}
use Rattle.schema_registry.proofs.shared.SharedRegistry.compare_ahead.Given as goal

abbrev pub invariant-loop : goal.invariant-loop
invariant-loop g l = l.candidate ≡ l.fn.candidate
