-- The pairs so far are those of the walk, and the bad ones those before the place.
use Rattle.std.proofs.Common.{◌≡◌, ◌-◌, ◌*◌, length, take}
use Rattle.schema_check.specs.BadPairs.{bad_among}
use Rattle.schema_check.specs.Walk.{IsWalk}
use Rattle.schema_check.specs.Ways.{AreParents}
use Rattle.schema_check.proofs.checking.check_pair.Given as goal

abbrev pub invariant-loop-place : goal.invariant-loop-place
invariant-loop-place l = record {
  writers : l.pairs.writers ≡ length l.writer;
  readers : l.pairs.readers ≡ length l.reader;
  walk : IsWalk l.writer l.reader l.place l.pairs.pairs;
  bad : l.bad.items ≡ bad_among l.writer l.reader 0 (take l.place l.pairs.pairs);
  parents : AreParents l.writer l.reader l.pairs.pairs l.parents.items;
}

abbrev pub decreases-loop-place : goal.decreases-loop-place
decreases-loop-place l = length l.writer * length l.reader - l.place
