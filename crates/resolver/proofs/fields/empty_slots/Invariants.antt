-- A slot for each field so far.
use Rattle.std.proofs.Common.{◌≡◌, length, take}
use Rattle.avro_types.specs.Node.{fields_of}
use Rattle.spec_avro.specs.Resolution.{no_slots}
use Rattle.resolver.specs.Steps.{slots_of}
use Rattle.resolver.proofs.fields.empty_slots.Given as goal

abbrev pub invariant-loop-field : goal.invariant-loop-field
invariant-loop-field l = record {
  none : slots_of l.slots.items ≡ no_slots (fields_of (take l._field-index l.fields));
  each : length l.slots.items ≡ l._field-index;
}
