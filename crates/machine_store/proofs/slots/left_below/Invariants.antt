-- Each buffer at the end so far belongs to such a slot.
use Rattle.std.proofs.Common.{◌≤◌, ◌<◌, ℕ, length}
use Rattle.machine_store.specs.Slots.{IsAbove}
use Rattle.machine_store.proofs.slots.left_below.Given as goal

abbrev pub invariant-loop-left : goal.invariant-loop-left
invariant-loop-left l = (l.left ≤ length l.held) × ((at : ℕ) → l.left ≤ at → at < length l.held → IsAbove l.first at l.held)

abbrev pub decreases-loop-left : goal.decreases-loop-left
decreases-loop-left l = l.left
