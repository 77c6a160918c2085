-- The partners so far lead to those in the end.
use Rattle.std.proofs.Common.{◌≡◌, drop, length}
use Rattle.avro_types.specs.Node.{fields_of}
use Rattle.spec_avro.specs.Partners.{field_names, partners, with_aliases}
use Rattle.resolver.proofs.pairing.partners.Given as goal

abbrev pub invariant-loop-position : goal.invariant-loop-position
invariant-loop-position l = record {
  len : length l.partners.items ≡ length l.writer_fields;
  so_far : with_aliases (field_names (fields_of l.writer_fields)) l.partners.items l.position (fields_of (drop l.position l.reader_fields)) ≡ partners (fields_of l.writer_fields) (fields_of l.reader_fields);
}
