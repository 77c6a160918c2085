-- The partners of the fields so far.
use Rattle.std.proofs.Common.{◌≡◌, take, IfSome}
use Rattle.avro_types.specs.Node.{fields_of}
use Rattle.spec_avro.specs.Partners.{by_name, field_names}
use Rattle.resolver.proofs.pairing.by_name.Given as goal

abbrev pub invariant-loop-field : goal.invariant-loop-field
invariant-loop-field l = record {
  table : IfSome l.table (λ names. names ≡ field_names (fields_of l.rs));
  so_far : l.partners.items ≡ by_name (fields_of (take l.field-index l.ws)) (fields_of l.rs);
}
