-- The pairs so far are reached, and those before the place are good, with all that they lead to among the pairs.
use Rattle.std.proofs.Common.{◌≡◌, ◌-◌, ◌*◌, length}
use Rattle.resolver.proofs.Closed.{Kept}
use Rattle.resolver.proofs.safety.can_read.Given as goal

abbrev pub invariant-loop-place : goal.invariant-loop-place
invariant-loop-place l = record {
  writers : l.pairs.writers ≡ length l.writer;
  readers : l.pairs.readers ≡ length l.reader;
  kept : Kept l.writer l.reader l.place l.pairs.pairs;
}

abbrev pub decreases-loop-place : goal.decreases-loop-place
decreases-loop-place l = length l.writer * length l.reader - l.place
