-- The digits to come, after the bounded number of those that were read, spell the same number up to the bound.
use Rattle.std.proofs.Common.{◌≡◌, ◌≤◌, drop, min}
use Rattle.spec_service.specs.Digits.{number_after, number}
use Rattle.gateway_requests.proofs.head.number_up_to.Given as goal

abbrev pub invariant-loop-digit : goal.invariant-loop-digit
invariant-loop-digit l = record {
  bound : l.value ≤ l.most;
  same : min (number_after l.value (drop l.digit-index l.digits)) l.most ≡ min (number l.digits) l.most;
}
