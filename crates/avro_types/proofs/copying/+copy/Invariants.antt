-- The copies so far, before what is left, are the whole.
use Rattle.std.proofs.Common.{◌≡◌, ◌++◌, drop}
use Rattle.avro_types.specs.Datum.{data_of, pairs_of}
use Rattle.avro_types.proofs.copying.+copy.Given as goal

abbrev pub invariant-copy_each-loop-datum : goal.invariant-copy_each-loop-datum
invariant-copy_each-loop-datum l = data_of (l.copies.items ++ drop l.datum-index l.all) ≡ data_of l.all

abbrev pub invariant-copy_pairs-loop-pair : goal.invariant-copy_pairs-loop-pair
invariant-copy_pairs-loop-pair l = pairs_of (l.copies.items ++ drop l.pair-index l.pairs) ≡ pairs_of l.pairs
