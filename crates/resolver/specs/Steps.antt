-- What the steps of resolution answer.
use Rattle.std.specs.Prelude.{ℕ, List, map, Option, Some, None, Ok, option_map, slice_get, slice_set}
use Rattle.std.specs.Borrow.{Bor}
use Rattle.avro_types.specs.declared.kind.Field.{Field}
use Rattle.avro_types.specs.declared.datum.Datum as rust
use Rattle.spec_avro.specs.Node.{Node, FieldNode}
use Rattle.avro_types.specs.Node.{fields_of}
use Rattle.spec_avro.specs.WellFormed.{FieldsBelow, HaveDistinctNames}
use Rattle.spec_avro.specs.Datum.{Datum, NullDatum, BooleanDatum, IntDatum, LongDatum, BytesDatum, TextDatum, FixedDatum, EnumDatum, ArrayDatum, MapDatum, UnionDatum, RecordDatum}
use Rattle.avro_types.specs.Datum.{datum_of}
use Rattle.spec_avro.specs.declared.mismatch.MismatchKind.TheVariants.{NoMatch, NoSymbol}
use Rattle.spec_avro.specs.Matching.{both_items, both_values}
use Rattle.spec_avro.specs.Options.{given}
use Rattle.spec_avro.specs.Partners.{routes}
use Rattle.spec_avro.specs.declared.place.Route.{Route}
use Rattle.spec_avro.specs.Resolution.{Resolved, ◌>>=◌, Slots, mismatch, int_for, text_for, bytes_for, symbol_at, symbol_for, field_lists, filled, lacking, no_slots, unless_lacking, resolved, resolved_items, resolved_values, resolved_fields}

-- fields of one record in a schema of `len` nodes
pub record AreFields (len : ℕ) (fs : List FieldNode) : Type 0 where
  pub below : FieldsBelow len fs
  pub distinct : HaveDistinctNames fs

abbrev pub both_lists : Bor (List Field) × Bor (List Field) → List FieldNode × List FieldNode
both_lists p = (fields_of p.0.now, fields_of p.1.now)

abbrev pub slots_of : List (Option rust.Datum) → Slots
slots_of slots = map (option_map datum_of) slots

-- a value in its slot
abbrev pub kept : {X : Type 0} → Option (ℕ × X) → List (Option X) → List (Option X)
kept None slots = slots
kept (Some p) slots = slice_set slots p.0 (Some p.1)

-- what becomes of a datum whose place is the reader's node itself
unfoldable pub inside : List Node → List Node → ℕ → ℕ → Datum → Resolved Datum
inside W R w r NullDatum = Ok NullDatum
inside W R w r (BooleanDatum b) = Ok (BooleanDatum b)
inside W R w r (IntDatum n) = Ok (int_for (slice_get R r) (IntDatum n))
inside W R w r (LongDatum n) = Ok (LongDatum n)
inside W R w r (BytesDatum bytes) = bytes_for (slice_get R r) w r bytes
inside W R w r (TextDatum text) = Ok (text_for (slice_get R r) text)
inside W R w r (FixedDatum bytes) = Ok (FixedDatum bytes)
inside W R w r (EnumDatum n) =
    given (symbol_at (slice_get W w) n) (mismatch NoMatch w r) (λ symbol.
    given (symbol_for (slice_get R r) symbol) (mismatch NoSymbol w r) (λ m. Ok (EnumDatum m)))
inside W R w r (ArrayDatum ds) =
    given (both_items (slice_get W w) (slice_get R r)) (mismatch NoMatch w r) (λ p.
    resolved_items W R p.0 p.1 ds >>= λ es. Ok (ArrayDatum es))
inside W R w r (MapDatum ps) =
    given (both_values (slice_get W w) (slice_get R r)) (mismatch NoMatch w r) (λ p.
    resolved_values W R p.0 p.1 ps >>= λ qs. Ok (MapDatum qs))
inside W R w r (RecordDatum ds) =
    given (field_lists (slice_get W w) (slice_get R r)) (mismatch NoMatch w r) (λ p.
    unless_lacking (lacking p.0 p.1) w
    (resolved_fields W R (no_slots p.1) (routes p.0 p.1) ds >>= λ slots. Ok (RecordDatum (filled p.1 slots))))
inside W R w r (UnionDatum n d) = mismatch NoMatch w r

-- what comes of a field of the writer's, with the position of its partner, where it has one
abbrev pub one_field : List Node → List Node → Route → Datum → Resolved (Option (ℕ × Datum))
one_field W R r d = given r.partner (Ok None) (λ p. resolved W R r.node p.node d >>= λ e. Ok (Some (p.position, e)))

abbrev pub placed_value : ℕ × rust.Datum → ℕ × Datum
placed_value p = (p.0, datum_of p.1)
