-- The zeros so far are passed over.
use Rattle.std.proofs.Common.{◌≡◌, ◌≤◌, ◌-◌, drop, length}
use Rattle.spec_service.specs.Digits.{significant_digits}
use Rattle.gateway_requests.proofs.head.significant_digits.Given as goal

abbrev pub invariant-loop-zeros : goal.invariant-loop-zeros
invariant-loop-zeros l = record {
  bound : l.zeros ≤ length l.digits;
  same : significant_digits (drop l.zeros l.digits) ≡ significant_digits l.digits;
}

abbrev pub decreases-loop-zeros : goal.decreases-loop-zeros
decreases-loop-zeros l = length l.digits - l.zeros
