-- What one step of resolution makes of a datum.
use Rattle.std.proofs.Common.{◌≡◌, ℕ, false, List, slice_get, option_map, Option, Some, None, Result, Ok, Err, refl, sym, ap, ◌∙◌, String, Global, Box}
use Rattle.std.specs.Global.{Vec}
use Rattle.avro_types.specs.declared.datum.Datum as rust
use Rattle.spec_avro.specs.Node.{Node, FieldNode}
use Rattle.spec_avro.specs.Datum.{Data, Pairs, ArrayDatum, MapDatum, RecordDatum}
use Rattle.avro_types.specs.Datum.{datum_of, data_of, pairs_of}
use Rattle.avro_types.specs.Laws.DatumOf.{datum_of-Array, datum_of-Map, datum_of-Record}
use Rattle.spec_avro.specs.declared.mismatch.MismatchKind.TheVariants.{NoMatch}
use Rattle.resolver.specs.declared.mismatch.ResolveError.{ResolveError}
use Rattle.resolver.specs.declared.mismatch.ResolveError.TheVariants as errors
use Rattle.spec_avro.specs.Matching.{both_items, both_values, place}
use Rattle.spec_avro.specs.Options.{given}
use Rattle.spec_avro.specs.Partners.{routes}
use Rattle.spec_avro.specs.Resolution.{Resolved, ◌>>=◌, Slots, mismatch, placed, field_lists, filled, lacking, no_slots, unless_lacking, resolved, resolved_items, resolved_values, resolved_fields}
use Rattle.resolver.specs.Resolution.{Resolves}
use Rattle.resolver.specs.Laws.Placed.{by_place, is_union_datum}
use Rattle.resolver.specs.Steps.{inside, slots_of}

pub none_lacking : {A B : Type 0} (f : A → B) (o : Option A) (x : Option B) → o ≡ None → option_map f o ≡ x → None ≡ x
none_lacking f o x none e = sym (ap (option_map f) none) ∙ e

module _ (W R : List Node) where
  no_union_datum : (d : rust.Datum) → ((n : ℕ) (b : Box rust.Datum Global) → d ≡ rust.Union n b → ⊥) → is_union_datum (datum_of d) ≡ false
  no_union_datum (rust.Union' n p d) h = absurd (h n (record { ptr = p.ptr; alloc = p.alloc; value = d }) refl)
  no_union_datum d h = refl

  pub into_place : (w r : ℕ) (d : rust.Datum) → ((n : ℕ) (b : Box rust.Datum Global) → d ≡ rust.Union n b → ⊥) → (res : Result rust.Datum ResolveError) → Resolves datum_of res (placed (place W R w r) w r (λ node. inside W R w node (datum_of d))) → Resolves datum_of res (resolved W R w r (datum_of d))
  into_place w r d not res h = rw (by_place W R w r (datum_of d) (no_union_datum d not)) h

  -- a record whose reader lacks nothing
  within_record : (w r : ℕ) (fs gs : List FieldNode) (ds : Data) → Some (fs, gs) ≡ field_lists (slice_get W w) (slice_get R r) → None ≡ lacking fs gs → inside W R w r (RecordDatum ds) ≡ (resolved_fields W R (no_slots gs) (routes fs gs) ds >>= λ slots. Ok (RecordDatum (filled gs slots)))
  unfolding inside
  within_record w r fs gs ds lists none =
      ap (λ (o : Option (List FieldNode × List FieldNode)). given o (mismatch NoMatch w r) (λ p. unless_lacking (lacking p.0 p.1) w (resolved_fields W R (no_slots p.1) (routes p.0 p.1) ds >>= λ slots. Ok (RecordDatum (filled p.1 slots))))) (sym lists)
      ∙ ap (λ (o : Option FieldNode). unless_lacking o w (resolved_fields W R (no_slots gs) (routes fs gs) ds >>= λ slots. Ok (RecordDatum (filled gs slots)))) (sym none)

  -- a mismatch of a field is the record's
  pub record_err : (w r : ℕ) (fs gs : List FieldNode) (ds : Data) (empty : Slots) (e : ResolveError) → Some (fs, gs) ≡ field_lists (slice_get W w) (slice_get R r) → None ≡ lacking fs gs → empty ≡ no_slots gs → Resolves (λ (v : Vec (Option rust.Datum)). slots_of v.items) (Err e) (resolved_fields W R empty (routes fs gs) ds) → Resolves datum_of (Err e) (inside W R w r (RecordDatum ds))
  record_err w r fs gs ds empty (errors.Mismatch m) lists none first h =
      within_record w r fs gs ds lists none
      ∙ ap (λ (l : Slots). resolved_fields W R l (routes fs gs) ds >>= λ slots. Ok (RecordDatum (filled gs slots))) (sym first)
      ∙ ap (λ (x : Resolved Slots). x >>= λ slots. Ok (RecordDatum (filled gs slots))) h
  record_err w r fs gs ds empty errors.NoMemory lists none first h = tt

  -- the fields that came or had defaults, in the reader's order
  pub record_made : (w r : ℕ) (fs gs : List FieldNode) (ds : Data) (empty : Slots) (slots : List (Option rust.Datum)) (all : Vec rust.Datum) → Some (fs, gs) ≡ field_lists (slice_get W w) (slice_get R r) → None ≡ lacking fs gs → empty ≡ no_slots gs → resolved_fields W R empty (routes fs gs) ds ≡ Ok (slots_of slots) → data_of all.items ≡ filled gs (slots_of slots) → inside W R w r (RecordDatum ds) ≡ Ok (datum_of (rust.Record all))
  unfolding inside
  record_made w r fs gs ds empty slots all lists none first came held =
      within_record w r fs gs ds lists none
      ∙ ap (λ (l : Slots). resolved_fields W R l (routes fs gs) ds >>= λ slots. Ok (RecordDatum (filled gs slots))) (sym first)
      ∙ ap (λ (x : Resolved Slots). x >>= λ slots. Ok (RecordDatum (filled gs slots))) came
      ∙ ap (λ (ds : Data). Ok (RecordDatum ds)) (sym held)
      ∙ ap Ok (sym (datum_of-Record all))

  -- the items or values that came
  pub array_made : (w r : ℕ) (p : ℕ × ℕ) (ds : Data) (all : Vec rust.Datum) → Some p ≡ both_items (slice_get W w) (slice_get R r) → resolved_items W R p.0 p.1 ds ≡ Ok (data_of all.items) → inside W R w r (ArrayDatum ds) ≡ Ok (datum_of (rust.Array all))
  unfolding inside
  array_made w r p ds all pair came =
      ap (λ (o : Option (ℕ × ℕ)). given o (mismatch NoMatch w r) (λ p. resolved_items W R p.0 p.1 ds >>= λ es. Ok (ArrayDatum es))) (sym pair)
      ∙ ap (λ (x : Resolved Data). x >>= λ es. Ok (ArrayDatum es)) came
      ∙ ap Ok (sym (datum_of-Array all))

  pub map_made : (w r : ℕ) (p : ℕ × ℕ) (ps : Pairs) (all : Vec (String Global × rust.Datum)) → Some p ≡ both_values (slice_get W w) (slice_get R r) → resolved_values W R p.0 p.1 ps ≡ Ok (pairs_of all.items) → inside W R w r (MapDatum ps) ≡ Ok (datum_of (rust.Map all))
  unfolding inside
  map_made w r p ps all pair came =
      ap (λ (o : Option (ℕ × ℕ)). given o (mismatch NoMatch w r) (λ p. resolved_values W R p.0 p.1 ps >>= λ qs. Ok (MapDatum qs))) (sym pair)
      ∙ ap (λ (x : Resolved Pairs). x >>= λ qs. Ok (MapDatum qs)) came
      ∙ ap Ok (sym (datum_of-Map all))

  pub array_result : (w r : ℕ) (d : rust.Datum) (v : Vec rust.Datum) → d ≡ rust.Array v → (res : Result rust.Datum ResolveError) → Resolves datum_of res (inside W R w r (ArrayDatum (data_of v.items))) → Resolves datum_of res (inside W R w r (datum_of d))
  array_result w r d v same res h = rw (same, datum_of-Array v) h

  pub map_result : (w r : ℕ) (d : rust.Datum) (v : Vec (String Global × rust.Datum)) → d ≡ rust.Map v → (res : Result rust.Datum ResolveError) → Resolves datum_of res (inside W R w r (MapDatum (pairs_of v.items))) → Resolves datum_of res (inside W R w r (datum_of d))
  map_result w r d v same res h = rw (same, datum_of-Map v) h

  pub record_result : (w r : ℕ) (d : rust.Datum) (v : Vec rust.Datum) → d ≡ rust.Record v → (res : Result rust.Datum ResolveError) → Resolves datum_of res (inside W R w r (RecordDatum (data_of v.items))) → Resolves datum_of res (inside W R w r (datum_of d))
  record_result w r d v same res h = rw (same, datum_of-Record v) h
