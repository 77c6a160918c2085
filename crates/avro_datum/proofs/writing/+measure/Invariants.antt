use Rattle.std.proofs.Common.{◌≡◌, ◌+◌, length, drop}
use Rattle.avro_datum.proofs.writing.+measure.Given as goal
use Rattle.avro_types.specs.Datum.{data_of, pairs_of}
use Rattle.spec_avro.specs.Writing.{written_data, written_pairs}

abbrev pub invariant-measure_each-loop-datum : goal.invariant-measure_each-loop-datum
invariant-measure_each-loop-datum l = l.left + length (written_data (data_of l.each)) ≡ l.room + length (written_data (data_of (drop l.datum-index l.each)))

abbrev pub invariant-measure_pairs-loop-pair : goal.invariant-measure_pairs-loop-pair
invariant-measure_pairs-loop-pair l = l.left + length (written_pairs (pairs_of l.pairs)) ≡ l.room + length (written_pairs (pairs_of (drop l.pair-index l.pairs)))
