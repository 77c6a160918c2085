-- The pairs so far are added, and the others are left.
use Rattle.std.proofs.Common.{◌≡◌, drop}
use Rattle.schema_check.specs.Pairs.{with_all}
use Rattle.schema_check.proofs.pairs.PairList.add_all.Given as goal

abbrev pub invariant-loop-pair : goal.invariant-loop-pair
invariant-loop-pair l = record {
  pairs : with_all l.self.pairs (drop l.pair-index l.more) ≡ with_all l.fn.self.pairs l.more;
  writers : l.self.writers ≡ l.fn.self.writers;
  readers : l.self.readers ≡ l.fn.self.readers;
}
