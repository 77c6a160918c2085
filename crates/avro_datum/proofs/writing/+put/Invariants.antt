use Rattle.std.proofs.Common.{◌≡◌, ◌++◌, drop}
use Rattle.avro_datum.proofs.writing.+put.Given as goal
use Rattle.avro_bytes.specs.Shortest.{Extends}
use Rattle.avro_types.specs.Datum.{data_of, pairs_of}
use Rattle.spec_avro.specs.Writing.{written_data, written_pairs}

abbrev pub invariant-put_each-loop-datum : goal.invariant-put_each-loop-datum
invariant-put_each-loop-datum l = record {
  so_far : l.out.items ++ written_data (data_of (drop l.datum-index l.each)) ≡ l.fn.out.items ++ written_data (data_of l.each);
  extends : Extends l.fn.out.items l.out.items;
}

abbrev pub invariant-put_pairs-loop-pair : goal.invariant-put_pairs-loop-pair
invariant-put_pairs-loop-pair l = record {
  so_far : l.out.items ++ written_pairs (pairs_of (drop l.pair-index l.pairs)) ≡ l.fn.out.items ++ written_pairs (pairs_of l.pairs);
  extends : Extends l.fn.out.items l.out.items;
}
