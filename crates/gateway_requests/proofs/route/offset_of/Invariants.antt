-- None of the bytes so far is it.
use Rattle.std.proofs.Common.{◌≡◌, ◌==◌, ◌<◌, ℕ, false, get_or}
use Rattle.gateway_requests.proofs.route.offset_of.Given as goal

abbrev pub invariant-loop-offset : goal.invariant-loop-offset
invariant-loop-offset l = (k : ℕ) → k < l.offset → (get_or l.text k 0 == l.byte) ≡ false
