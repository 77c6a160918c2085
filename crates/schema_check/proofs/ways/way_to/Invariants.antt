-- What was read back so far goes on to the pair at the place.
use Rattle.std.proofs.Common.{◌<◌, length}
use Rattle.schema_check.specs.Pairs.{AreBelow, pairs_at}
use Rattle.schema_check.proofs.Onward.{GoesOn}
use Rattle.schema_check.proofs.ways.way_to.Given as goal

abbrev pub invariant-loop-at : goal.invariant-loop-at
invariant-loop-at l = record {
  there : l.at < length l.check.pairs.items;
  parent : l.at < length l.check.parents.items;
  on : GoesOn (pairs_at l.check.pairs.items) l.check.parents.items l.at (pairs_at l.back.items) l.place;
  below : AreBelow (length l.writer) (length l.reader) l.back.items;
}

abbrev pub decreases-loop-at : goal.decreases-loop-at
decreases-loop-at l = l.at
