-- What is done, before what is left, is the whole.
use Rattle.std.proofs.Common.{◌≡◌, length}
use Rattle.std.specs.Slice.Iter.{iter_rest}
use Rattle.std.specs.Vec.Iter.{into_iter_items, into_iter_len}
use Rattle.avro_types.specs.Node.{fields_of}
use Rattle.avro_types.specs.Datum.{data_of}
use Rattle.spec_avro.specs.Resolution.{filled}
use Rattle.resolver.specs.Steps.{slots_of}
use Rattle.resolver.proofs.Items.{joined}
use Rattle.resolver.proofs.fields.fill.Given as goal

abbrev pub invariant-loop-field : goal.invariant-loop-field
invariant-loop-field l = record {
  so_far : joined (data_of l.data.items) (filled (fields_of (iter_rest l.field-iterator.a)) (slots_of (into_iter_items l.field-iterator.b))) ≡ filled (fields_of l.fields) (slots_of l.fn.slots.items);
  len : into_iter_len l.field-iterator.b ≡ length (into_iter_items l.field-iterator.b);
}
