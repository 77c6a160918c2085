-- What resolution makes of data that can be written can be written, where the reader's defaults can.
use Rattle.std.proofs.Common.{◌≡◌, ◌≤◌, ℕ, zero, suc, ℤ, List, [], ◌∷◌, length, slice_get, slice_set, Option, Some, None, IfSome, Ok, refl, ap, subst, arith}
use Rattle.std.specs.List.{AllByRecursion}
use Rattle.std.specs.Str.{is_utf8}
use Rattle.spec_avro.specs.declared.limits.TheConstants.{MOST_CONTENT}
use Rattle.spec_avro.specs.Node.{Node, Names, FieldNode, LongNode, BytesNode, TextNode, RecordNode}
use Rattle.spec_avro.specs.Datum.{Datum, Data, Pairs, NullDatum, BooleanDatum, IntDatum, LongDatum, BytesDatum, TextDatum, FixedDatum, EnumDatum, ArrayDatum, MapDatum, UnionDatum, RecordDatum, no_more, more, no_pairs, pair, how_many, how_many_pairs}
use Rattle.spec_avro.specs.Sizes.{DefaultsHaveSizesWithin}
use Rattle.spec_avro.specs.Writable.{IsWritable, AreWritable, AreWritablePairs, most_items}
use Rattle.spec_avro.specs.declared.mismatch.MismatchKind.{MismatchKind}
use Rattle.spec_avro.specs.declared.place.Destination.{Destination}
use Rattle.spec_avro.specs.declared.place.Destination.TheVariants.{Straight, IntoMember, Nowhere, Unmatched}
use Rattle.spec_avro.specs.Matching.{both_items, both_values, place}
use Rattle.spec_avro.specs.Options.{given, or_else}
use Rattle.spec_avro.specs.Resolution.{Resolved, mismatch, placed, int_for, text_for, bytes_for, symbol_at, member_at, field_lists, lacking, resolved, resolved_items, resolved_values, resolved_fields, Slots, filled, no_slots}
use Rattle.spec_avro.specs.Partners.{routes}
use Rattle.spec_avro.specs.declared.place.Partner.{Partner}
use Rattle.spec_avro.specs.declared.place.Route.{Route}
use Rattle.resolver.specs.Laws.Fields.{one_put}
use Rattle.resolver.proofs.Places.{wrapped}
use Rattle.resolver.proofs.Whole.{bound, enum_made, made_of, none_lacks, text_or_fault, two}

-- ---- what was made, taken apart

there : {X B : Type 0} (o : Option X) (kind : MismatchKind) (w r : ℕ) (go : X → Resolved B) (e : B) → given o (mismatch kind w r) go ≡ Ok e → (x : X) × (o ≡ Some x) × (go x ≡ Ok e)
there None kind w r go e h = absurd cc
there (Some x) kind w r go e h = (x, refl, h)

-- the reader's fields are those of its record
readers_fields : (o p : Option Node) (q : List FieldNode × List FieldNode) → field_lists o p ≡ Some q → (names : Names) × (p ≡ Some (RecordNode names q.1))
readers_fields (Some (RecordNode n fs)) (Some (RecordNode m gs)) q e = (m, ap (λ (l : List FieldNode). Some (RecordNode m l)) (let same : gs ≡ q.1 = cc in same))
readers_fields o p q e = absurd cc

-- ---- leaves

same_writable : (d e : Datum) → IsWritable d → made_of d ≡ Ok e → IsWritable e
unfolding made_of
same_writable d e s h = let same : d ≡ e = cc in subst IsWritable same s

int_writable : (o : Option Node) (n : ℤ) → IsWritable (int_for o (IntDatum n))
int_writable (Some LongNode) n = tt
int_writable o n = tt

text_writable : (o : Option Node) (text : List ℕ) → length text ≤ MOST_CONTENT → IsWritable (text_for o text)
text_writable (Some BytesNode) text s = s
text_writable o text s = s

bytes_writable : (o : Option Node) (w r : ℕ) (bytes : List ℕ) (e : Datum) → length bytes ≤ MOST_CONTENT → bytes_for o w r bytes ≡ Ok e → IsWritable e
unfolding made_of
bytes_writable (Some TextNode) w r bytes e s h = same_writable (TextDatum bytes) e s (ap made_of (text_or_fault (is_utf8 bytes) w r bytes e h).1)
bytes_writable o w r bytes e s h = same_writable (BytesDatum bytes) e s h

-- ---- places and fields

placed_writable : (p : Destination) (w r : ℕ) (value : ℕ → Resolved Datum) (e : Datum) → ((node : ℕ) (d : Datum) → value node ≡ Ok d → IsWritable d) → placed p w r value ≡ Ok e → IsWritable e
placed_writable Straight w r value e inner h = inner r e h
placed_writable (IntoMember position node) w r value e inner h = let made = wrapped (value node) position e h in subst IsWritable made.2 (inner node made.0 made.1)
placed_writable Nowhere w r value e inner h = absurd cc
placed_writable Unmatched w r value e inner h = absurd cc

abbrev SlotsWritable : Slots → Type 0
SlotsWritable slots = AllByRecursion (λ s. IfSome s IsWritable) slots

none_writable : (gs : List FieldNode) → SlotsWritable (no_slots gs)
none_writable [] = tt
none_writable (g ∷ gs) = (tt, none_writable gs)

put_writable : (slots : Slots) (j : ℕ) (e : Datum) → IsWritable e → SlotsWritable slots → SlotsWritable (slice_set slots j (Some e))
put_writable [] j e s t = t
put_writable (o ∷ slots) zero e s t = (s, t.1)
put_writable (o ∷ slots) (suc j) e s t = (t.0, put_writable slots j e s t.1)

either_writable : (o p : Option Datum) → IfSome o IsWritable → IfSome p IsWritable → IfSome (or_else o p) IsWritable
either_writable None p s t = t
either_writable (Some d) p s t = s

one_filled : (o : Option Datum) (ds : Data) → IfSome o IsWritable → AreWritable ds → AreWritable (given o ds (λ d. more d ds))
one_filled None ds s t = t
one_filled (Some d) ds s t = (s, t)

filled_writable : (gs : List FieldNode) (slots : Slots) → AllByRecursion (λ g. IfSome g.default IsWritable) gs → SlotsWritable slots → AreWritable (filled gs slots)
filled_writable [] slots defaults s = tt
filled_writable (g ∷ gs) [] defaults s = tt
filled_writable (g ∷ gs) (o ∷ slots) defaults s =
    one_filled (or_else o g.default) (filled gs slots) (either_writable o g.default s.0 defaults.0) (filled_writable gs slots defaults.1 s.1)

module _ (W R : List Node) (defaults : DefaultsHaveSizesWithin MOST_CONTENT most_items R) where
  record_writable : (w r : ℕ) (p : List FieldNode × List FieldNode) (e : Datum) (final : Slots) → field_lists (slice_get W w) (slice_get R r) ≡ Some p → SlotsWritable final → RecordDatum (filled p.1 final) ≡ e → IsWritable e
  record_writable w r p e final lists s made =
      let f = readers_fields (slice_get W w) (slice_get R r) p lists in
      subst IsWritable made (filled_writable p.1 final (defaults r f.0 p.1 f.1) s)

  field_writable : (r : Route) (d : Datum) (slots : Slots) → SlotsWritable slots → ((p : Partner) (e : Datum) → resolved W R r.node p.node d ≡ Ok e → IsWritable e) → (o : Option Partner) → IfSome o (λ p. (e : Datum) → resolved W R r.node p.node d ≡ Ok e → SlotsWritable (slice_set slots p.position (Some e)))
  field_writable r d slots s its None = tt
  field_writable r d slots s its (Some p) = λ e k. put_writable slots p.position e (its p e k) s

  mutual
    unfolding resolved resolved_items resolved_values resolved_fields made_of

    pub datum_writable : (d : Datum) (w r : ℕ) (e : Datum) → IsWritable d → resolved W R w r d ≡ Ok e → IsWritable e
    datum_writable NullDatum w r e s h = placed_writable (place W R w r) w r (λ node. Ok NullDatum) e (λ node d k. same_writable NullDatum d tt k) h
    datum_writable (BooleanDatum b) w r e s h = placed_writable (place W R w r) w r (λ node. Ok (BooleanDatum b)) e (λ node d k. same_writable (BooleanDatum b) d tt k) h
    datum_writable (IntDatum n) w r e s h = placed_writable (place W R w r) w r _ e (λ node d k. same_writable (int_for (slice_get R node) (IntDatum n)) d (int_writable (slice_get R node) n) k) h
    datum_writable (LongDatum n) w r e s h = placed_writable (place W R w r) w r (λ node. Ok (LongDatum n)) e (λ node d k. same_writable (LongDatum n) d tt k) h
    datum_writable (BytesDatum bytes) w r e s h = placed_writable (place W R w r) w r _ e (λ node d k. bytes_writable (slice_get R node) w node bytes d s k) h
    datum_writable (TextDatum text) w r e s h = placed_writable (place W R w r) w r _ e (λ node d k. same_writable (text_for (slice_get R node) text) d (text_writable (slice_get R node) text s) k) h
    datum_writable (FixedDatum bytes) w r e s h = placed_writable (place W R w r) w r (λ node. Ok (FixedDatum bytes)) e (λ node d k. same_writable (FixedDatum bytes) d tt k) h
    datum_writable (EnumDatum n) w r e s h = placed_writable (place W R w r) w r _ e (λ node d k. subst IsWritable (enum_made (symbol_at (slice_get W w) n) (slice_get R node) w node d k).3 tt) h
    datum_writable (ArrayDatum ds) w r e s h =
        placed_writable (place W R w r) w r _ e (λ node d k.
        let p = there (both_items (slice_get W w) (slice_get R node)) _ w node _ d k in
        let made = bound (resolved_items W R p.0.0 p.0.1 ds) ArrayDatum d p.2 in
        let all = items_writable ds p.0.0 p.0.1 made.0 s.1 made.1 in
        let few : how_many made.0 ≤ most_items = omega (arith, all.0, s.0) in
        subst IsWritable made.2 (few, all.1)) h
    datum_writable (MapDatum ps) w r e s h =
        placed_writable (place W R w r) w r _ e (λ node d k.
        let p = there (both_values (slice_get W w) (slice_get R node)) _ w node _ d k in
        let made = bound (resolved_values W R p.0.0 p.0.1 ps) MapDatum d p.2 in
        let all = values_writable ps p.0.0 p.0.1 made.0 s.1 made.1 in
        let few : how_many_pairs made.0 ≤ most_items = omega (arith, all.0, s.0) in
        subst IsWritable made.2 (few, all.1)) h
    datum_writable (RecordDatum ds) w r e s h =
        placed_writable (place W R w r) w r _ e (λ node d k.
        let p = there (field_lists (slice_get W w) (slice_get R node)) _ w node _ d k in
        let made = none_lacks (lacking p.0.0 p.0.1) w (resolved_fields W R (no_slots p.0.1) (routes p.0.0 p.0.1) ds) p.0.1 d p.2 in
        record_writable w node p.0 d made.1.0 p.1 (fields_writable ds (routes p.0.0 p.0.1) (no_slots p.0.1) made.1.0 s (none_writable p.0.1) made.1.1) made.1.2) h
    datum_writable (UnionDatum n d) w r e s h = let p = there (member_at (slice_get W w) n) _ w r _ e h in datum_writable d p.0 r e s p.2

    items_writable : (ds : Data) (i j : ℕ) (es : Data) → AreWritable ds → resolved_items W R i j ds ≡ Ok es → (how_many es ≤ how_many ds) × AreWritable es
    items_writable no_more i j es s h = subst (λ (es : Data). (how_many es ≤ 0) × AreWritable es) (let e : no_more ≡ es = cc in e) (omega arith, tt)
    items_writable (more d ds) i j es s h =
        let p = two (resolved W R i j d) (resolved_items W R i j ds) more es h in
        let others = items_writable ds i j p.1 s.1 p.3 in
        subst (λ (es : Data). (how_many es ≤ suc (how_many ds)) × AreWritable es) p.4 (omega (arith, others.0), (datum_writable d i j p.0 s.0 p.2, others.1))

    values_writable : (ps : Pairs) (i j : ℕ) (qs : Pairs) → AreWritablePairs ps → resolved_values W R i j ps ≡ Ok qs → (how_many_pairs qs ≤ how_many_pairs ps) × AreWritablePairs qs
    values_writable no_pairs i j qs s h = subst (λ (qs : Pairs). (how_many_pairs qs ≤ 0) × AreWritablePairs qs) (let e : no_pairs ≡ qs = cc in e) (omega arith, tt)
    values_writable (pair key d ps) i j qs s h =
        let p = two (resolved W R i j d) (resolved_values W R i j ps) (pair key) qs h in
        let others = values_writable ps i j p.1 s.2 p.3 in
        subst (λ (qs : Pairs). (how_many_pairs qs ≤ suc (how_many_pairs ps)) × AreWritablePairs qs) p.4 (omega (arith, others.0), (s.0, datum_writable d i j p.0 s.1 p.2, others.1))

    fields_writable : (ds : Data) (routes : List Route) (slots final : Slots) → AreWritable ds → SlotsWritable slots → resolved_fields W R slots routes ds ≡ Ok final → SlotsWritable final
    fields_writable no_more [] slots final s t h = subst SlotsWritable (let same : slots ≡ final = cc in same) t
    fields_writable no_more (r ∷ routes) slots final s t h = subst SlotsWritable (let same : slots ≡ final = cc in same) t
    fields_writable (more d ds) [] slots final s t h = subst SlotsWritable (let same : slots ≡ final = cc in same) t
    fields_writable (more d ds) (r ∷ routes) slots final s t h =
        one_put W R r d (λ slots. resolved_fields W R slots routes ds) SlotsWritable final (λ slots t h. fields_writable ds routes slots final s.1 t h) r.partner slots t (field_writable r d slots t (λ p e k. datum_writable d r.node p.node e s.0 k) r.partner) h
