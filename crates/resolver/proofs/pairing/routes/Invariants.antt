-- The routes so far, before those of the fields that are left.
use Rattle.std.proofs.Common.{◌≡◌, ◌++◌}
use Rattle.std.specs.Slice.Iter.{iter_rest}
use Rattle.avro_types.specs.Node.{fields_of}
use Rattle.spec_avro.specs.Partners.{routes, routes_to}
use Rattle.resolver.proofs.pairing.routes.Given as goal

abbrev pub invariant-loop-field : goal.invariant-loop-field
invariant-loop-field l = l.routes.items ++ routes_to (fields_of l.reader_fields) (fields_of (iter_rest l.field-iterator.a)) (iter_rest l.field-iterator.b) ≡ routes (fields_of l.writer_fields) (fields_of l.reader_fields)
