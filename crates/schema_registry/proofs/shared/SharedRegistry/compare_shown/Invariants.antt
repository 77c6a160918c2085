use Rattle.std.proofs.Common.{◌≡◌}
use Rattle.schema_registry.proofs.shared.SharedRegistry.compare_shown.Given as goal

abbrev pub invariant-loop-id : goal.invariant-loop-id
invariant-loop-id l = l.candidate ≡ l.fn.candidate
