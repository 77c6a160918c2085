-- What resolution makes of data of the writer's node are data of the reader's node.
use Rattle.std.proofs.Common.{◌≡◌, ℕ, ◌+◌, ◌<◌, Bool, true, false, cond, List, [], ◌∷◌, length, slice_get, Option, Some, None, IfSome, Ok, Err, refl, sym, ap, subst, ◌∙◌, pos, negsuc, inl, inr, ℤ, arith}
use Rattle.std.specs.Str.{is_utf8}
use Rattle.std.proofs.lemmas.Str.{IsUtf8-from_is_utf8}
use Rattle.avro_types.specs.Laws.Placed.{place-within}
use Rattle.spec_avro.specs.Symbols.{place_of}
use Rattle.spec_avro.specs.Node.{Node, FieldNode, NullNode, BooleanNode, IntNode, LongNode, BytesNode, TextNode, FixedNode, EnumNode, ArrayNode, MapNode, RecordNode}
use Rattle.spec_avro.specs.WellFormed.{IsWellFormed, is_union}
use Rattle.spec_avro.specs.Datum.{Datum, Data, Pairs, NullDatum, BooleanDatum, IntDatum, LongDatum, BytesDatum, TextDatum, FixedDatum, EnumDatum, ArrayDatum, MapDatum, UnionDatum, RecordDatum, no_more, more, no_pairs, pair}
use Rattle.spec_avro.specs.Conforming.{Conforms, ConformAll, ConformPairs, DefaultsConform, HasBits}
use Rattle.spec_avro.specs.declared.mismatch.MismatchKind.TheVariants.{NoMatch, NoSymbol, BytesNotText}
use Rattle.spec_avro.specs.Matching.{both_items, both_values, matches}
use Rattle.spec_avro.specs.Options.{given, or_else}
use Rattle.spec_avro.specs.Resolution.{Resolved, ◌>>=◌, mismatch, int_for, text_for, bytes_for, symbol_at, symbol_for, symbol_in, member_at, field_lists, lacking, unless_lacking, resolved, resolved_items, resolved_values, resolved_fields, Slots, filled, no_slots}
use Rattle.spec_avro.specs.Answers.{ResolutionIsWhole}
use Rattle.resolver.proofs.Fitting.{node_fits}
use Rattle.resolver.proofs.Places.{placed_whole}
use Rattle.resolver.specs.Laws.Fields.{GoTo, came, length_no_slots, length_routes, one_put, routes_go}
use Rattle.resolver.proofs.Seats.{AreOf, Seated, all_filled, are_many, field_seated, fields_are_of, none_seated}
use Rattle.spec_avro.specs.Partners.{has_partner, partners, routes}
use Rattle.spec_avro.specs.declared.place.Route.{Route}

wider : (n : ℤ) → HasBits 31 n → HasBits 63 n
wider (pos n) h = omega arith
wider (negsuc n) h = omega arith

unfoldable pub made_of : {A : Type 0} → A → Resolved A
made_of a = Ok a

-- ---- what was made, taken apart

pub text_or_fault : (b : Bool) (w r : ℕ) (bytes : List ℕ) (d : Datum) → cond b (made_of (TextDatum bytes)) (mismatch BytesNotText w r) ≡ Ok d → (b ≡ true) × (TextDatum bytes ≡ d)
unfolding made_of
text_or_fault true w r bytes d h = (refl, cc)
text_or_fault false w r bytes d h = absurd cc

pub enum_made : (s : Option (List ℕ)) (o : Option Node) (w r : ℕ) (d : Datum) → given s (mismatch NoMatch w r) (λ symbol. given (symbol_for o symbol) (mismatch NoSymbol w r) (λ m. made_of (EnumDatum m))) ≡ Ok d → (symbol : List ℕ) × (m : ℕ) × (symbol_for o symbol ≡ Some m) × (EnumDatum m ≡ d)
unfolding made_of
enum_made None o w r d h = absurd cc
enum_made (Some symbol) o w r d h = one (symbol_for o symbol) refl h where
  one : (found : Option ℕ) → symbol_for o symbol ≡ found → given found (mismatch NoSymbol w r) (λ m. made_of (EnumDatum m)) ≡ Ok d → (symbol : List ℕ) × (m : ℕ) × (symbol_for o symbol ≡ Some m) × (EnumDatum m ≡ d)
  one None is h = absurd cc
  one (Some m) is h = (symbol, m, is, cc)

symbol_within : (symbols : List (List ℕ)) (default : Option ℕ) (symbol : List ℕ) (m : ℕ) → IfSome default (λ n. n < length symbols) → symbol_in symbols default symbol ≡ Some m → m < length symbols
symbol_within symbols default symbol m within e = one (place_of symbol symbols) refl default within e where
  one : (found : Option ℕ) → place_of symbol symbols ≡ found → (default : Option ℕ) → IfSome default (λ n. n < length symbols) → or_else found default ≡ Some m → m < length symbols
  one (Some i) is default within e = let same : i ≡ m = cc in subst (λ (x : ℕ). x < length symbols) same (place-within symbol symbols i is)
  one None is None within e = absurd cc
  one None is (Some n) within e = let same : n ≡ m = cc in subst (λ (x : ℕ). x < length symbols) same within

pub bound : {A B : Type 0} (x : Resolved A) (f : A → B) (b : B) → (x >>= λ a. made_of (f a)) ≡ Ok b → (a : A) × (x ≡ Ok a) × (f a ≡ b)
unfolding made_of
bound (Ok a) f b h = (a, refl, cc)
bound (Err m) f b h = absurd cc

-- one and another
pub two : {A B C : Type 0} (x : Resolved A) (y : Resolved B) (f : A → B → C) (c : C) → (x >>= λ a. y >>= λ b. made_of (f a b)) ≡ Ok c → (a : A) × (b : B) × (x ≡ Ok a) × (y ≡ Ok b) × (f a b ≡ c)
unfolding made_of
two (Ok a) (Ok b) f c h = (a, b, refl, refl, cc)
two (Ok a) (Err m) f c h = absurd cc
two (Err m) y f c h = absurd cc

member_made : (o : Option ℕ) (w r m : ℕ) (go : ℕ → Resolved Datum) (e : Datum) → o ≡ Some m → given o (mismatch NoMatch w r) go ≡ Ok e → go m ≡ Ok e
member_made o w r m go e at h = sym (ap (λ (o : Option ℕ). given o (mismatch NoMatch w r) go) at) ∙ h

pub none_lacks : (o : Option FieldNode) (w : ℕ) (came : Resolved Slots) (gs : List FieldNode) (e : Datum) → unless_lacking o w (came >>= λ slots. Ok (RecordDatum (filled gs slots))) ≡ Ok e → (o ≡ None) × ((slots : Slots) × (came ≡ Ok slots) × (RecordDatum (filled gs slots) ≡ e))
none_lacks (Some g) w came gs e h = absurd cc
none_lacks None w (Err m) gs e h = absurd cc
none_lacks None w (Ok slots) gs e h = (refl, (slots, refl, cc))

module _ (W R : List Node) (formed : IsWellFormed R) (defaults : DefaultsConform R) where
  -- ---- a datum in the reader's node itself, which matches

  module _ (w node : ℕ) (d : Datum) (u : is_union (slice_get R node) ≡ false) (m : matches W R w node ≡ true) where
    same_kind : (k : Node) (e : Datum) → Conforms R node e → Ok e ≡ made_of d → Conforms R node d
    unfolding made_of
    same_kind k e conforms h = let same : e ≡ d = cc in subst (Conforms R node) same conforms

    int_inside : (n : ℤ) → Conforms W w (IntDatum n) → Ok (int_for (slice_get R node) (IntDatum n)) ≡ made_of d → Conforms R node d
    unfolding made_of
    int_inside n is h =
        elim (node_fits W R w node IntNode is.0 m u) [
          | inl at ↦ same_kind IntNode (IntDatum n) (at, is.1) (sym (ap (λ (o : Option Node). made_of (int_for o (IntDatum n))) at) ∙ h)
          | inr at ↦ same_kind LongNode (LongDatum n) (at, wider n is.1) (sym (ap (λ (o : Option Node). made_of (int_for o (IntDatum n))) at) ∙ h)
        ]

    text_inside : (text : List ℕ) → Conforms W w (TextDatum text) → Ok (text_for (slice_get R node) text) ≡ made_of d → Conforms R node d
    unfolding made_of
    text_inside text is h =
        elim (node_fits W R w node TextNode is.0 m u) [
          | inl at ↦ same_kind TextNode (TextDatum text) (at, is.1) (sym (ap (λ (o : Option Node). made_of (text_for o text)) at) ∙ h)
          | inr at ↦ same_kind BytesNode (BytesDatum text) at (sym (ap (λ (o : Option Node). made_of (text_for o text)) at) ∙ h)
        ]

    bytes_inside : (bytes : List ℕ) → Conforms W w (BytesDatum bytes) → bytes_for (slice_get R node) w node bytes ≡ Ok d → Conforms R node d
    unfolding made_of
    bytes_inside bytes is h =
        elim (node_fits W R w node BytesNode is m u) [
          | inl at ↦ same_kind BytesNode (BytesDatum bytes) at (sym (ap (λ (o : Option Node). bytes_for o w node bytes) at) ∙ h)
          | inr at ↦ (let t = text_or_fault (is_utf8 bytes) w node bytes d (sym (ap (λ (o : Option Node). bytes_for o w node bytes) at) ∙ h) in subst (Conforms R node) t.1 (at, IsUtf8-from_is_utf8 bytes t.0))
        ]

    enum_inside : (n : ℕ) → (is : Conforms W w (EnumDatum n)) → given (symbol_at (slice_get W w) n) (mismatch NoMatch w node) (λ symbol. given (symbol_for (slice_get R node) symbol) (mismatch NoSymbol w node) (λ m. Ok (EnumDatum m))) ≡ Ok d → Conforms R node d
    unfolding made_of
    enum_inside n is h =
        let f = node_fits W R w node (EnumNode is.0 is.1 is.2) is.3 m u in
        let made = enum_made (symbol_at (slice_get W w) n) (slice_get R node) w node d h in
        let at : symbol_in f.1 f.2 made.0 ≡ Some made.1 = sym (ap (λ (o : Option Node). symbol_for o made.0) f.3) ∙ made.2 in
        subst (Conforms R node) made.3 (f.0, f.1, f.2, f.3, symbol_within f.1 f.2 made.0 made.1 (formed.each node (EnumNode f.0 f.1 f.2) f.3).2 at)

    array_inside : (ds : Data) → (is : Conforms W w (ArrayDatum ds)) → ((j : ℕ) (es : Data) → resolved_items W R is.0 j ds ≡ Ok es → ConformAll R j es) → given (both_items (slice_get W w) (slice_get R node)) (mismatch NoMatch w node) (λ p. resolved_items W R p.0 p.1 ds >>= λ es. Ok (ArrayDatum es)) ≡ Ok d → Conforms R node d
    unfolding made_of
    array_inside ds is items h =
        let f = node_fits W R w node (ArrayNode is.0) is.1 m u in
        let both : both_items (slice_get W w) (slice_get R node) ≡ Some (is.0, f.0) = ap (λ (o : Option Node). both_items o (slice_get R node)) is.1 ∙ ap (λ (o : Option Node). both_items (Some (ArrayNode is.0)) o) f.1 in
        let made = bound (resolved_items W R is.0 f.0 ds) ArrayDatum d (sym (ap (λ (o : Option (ℕ × ℕ)). given o (mismatch NoMatch w node) (λ p. resolved_items W R p.0 p.1 ds >>= λ es. Ok (ArrayDatum es))) both) ∙ h) in
        subst (Conforms R node) made.2 (f.0, f.1, items f.0 made.0 made.1)

    map_inside : (ps : Pairs) → (is : Conforms W w (MapDatum ps)) → ((j : ℕ) (qs : Pairs) → resolved_values W R is.0 j ps ≡ Ok qs → ConformPairs R j qs) → given (both_values (slice_get W w) (slice_get R node)) (mismatch NoMatch w node) (λ p. resolved_values W R p.0 p.1 ps >>= λ qs. Ok (MapDatum qs)) ≡ Ok d → Conforms R node d
    unfolding made_of
    map_inside ps is values h =
        let f = node_fits W R w node (MapNode is.0) is.1 m u in
        let both : both_values (slice_get W w) (slice_get R node) ≡ Some (is.0, f.0) = ap (λ (o : Option Node). both_values o (slice_get R node)) is.1 ∙ ap (λ (o : Option Node). both_values (Some (MapNode is.0)) o) f.1 in
        let made = bound (resolved_values W R is.0 f.0 ps) MapDatum d (sym (ap (λ (o : Option (ℕ × ℕ)). given o (mismatch NoMatch w node) (λ p. resolved_values W R p.0 p.1 ps >>= λ qs. Ok (MapDatum qs))) both) ∙ h) in
        subst (Conforms R node) made.2 (f.0, f.1, values f.0 made.0 made.1)

    record_inside : (ds : Data) → (is : Conforms W w (RecordDatum ds)) → ((gs : List FieldNode) (final : Slots) → resolved_fields W R (no_slots gs) (routes is.1 gs) ds ≡ Ok final → Seated R gs final) → given (field_lists (slice_get W w) (slice_get R node)) (mismatch NoMatch w node) (λ p. unless_lacking (lacking p.0 p.1) w (resolved_fields W R (no_slots p.1) (routes p.0 p.1) ds >>= λ slots. Ok (RecordDatum (filled p.1 slots)))) ≡ Ok d → Conforms R node d
    unfolding made_of
    record_inside ds is seated h =
        let fs = is.1 in
        let f = node_fits W R w node (RecordNode is.0 fs) is.2 m u in
        let gs = f.1 in
        let lists : field_lists (slice_get W w) (slice_get R node) ≡ Some (fs, gs) = ap (λ (o : Option Node). field_lists o (slice_get R node)) is.2 ∙ ap (λ (o : Option Node). field_lists (Some (RecordNode is.0 fs)) o) f.2 in
        let inner : unless_lacking (lacking fs gs) w (resolved_fields W R (no_slots gs) (routes fs gs) ds >>= λ slots. Ok (RecordDatum (filled gs slots))) ≡ Ok d =
        sym (ap (λ (o : Option (List FieldNode × List FieldNode)). given o (mismatch NoMatch w node) (λ p. unless_lacking (lacking p.0 p.1) w (resolved_fields W R (no_slots p.1) (routes p.0 p.1) ds >>= λ slots. Ok (RecordDatum (filled p.1 slots))))) lists) ∙ h in
        let p = none_lacks (lacking fs gs) w (resolved_fields W R (no_slots gs) (routes fs gs) ds) gs d inner in
        let final = p.1.0 in
        let there = λ (k i : ℕ) (at : i ≡ 0 + k) (has : has_partner i (routes fs gs) ≡ true). came W R gs (routes fs gs) ds (no_slots gs) final k (are_many W fs ds is.3 ∙ sym (length_routes fs gs)) (routes_go gs fs (partners fs gs)) (length_no_slots gs) (subst (λ (n : ℕ). has_partner n (routes fs gs) ≡ true) (let same : i ≡ k = omega (arith, at) in same) has) p.1.1 in
        subst (Conforms R node) p.1.2 (f.0, gs, f.2, all_filled R (routes fs gs) 0 gs final p.0 there (defaults node f.0 gs f.2) (seated gs final p.1.1))

  mutual
    unfolding resolved resolved_items resolved_values resolved_fields made_of

    datum_whole : (d : Datum) (w r : ℕ) (e : Datum) → Conforms W w d → resolved W R w r d ≡ Ok e → Conforms R r e
    datum_whole NullDatum w r e is h = placed_whole W R formed w (λ node. Ok NullDatum) (λ node d u m k. same_kind w node d u m NullNode NullDatum (node_fits W R w node NullNode is m u) k) r e h
    datum_whole (BooleanDatum b) w r e is h = placed_whole W R formed w (λ node. Ok (BooleanDatum b)) (λ node d u m k. same_kind w node d u m BooleanNode (BooleanDatum b) (node_fits W R w node BooleanNode is m u) k) r e h
    datum_whole (IntDatum n) w r e is h = placed_whole W R formed w (λ node. Ok (int_for (slice_get R node) (IntDatum n))) (λ node d u m k. int_inside w node d u m n is k) r e h
    datum_whole (LongDatum n) w r e is h = placed_whole W R formed w (λ node. Ok (LongDatum n)) (λ node d u m k. same_kind w node d u m LongNode (LongDatum n) (node_fits W R w node LongNode is.0 m u, is.1) k) r e h
    datum_whole (BytesDatum bytes) w r e is h = placed_whole W R formed w (λ node. bytes_for (slice_get R node) w node bytes) (λ node d u m k. bytes_inside w node d u m bytes is k) r e h
    datum_whole (TextDatum text) w r e is h = placed_whole W R formed w (λ node. Ok (text_for (slice_get R node) text)) (λ node d u m k. text_inside w node d u m text is k) r e h
    datum_whole (FixedDatum bytes) w r e is h = placed_whole W R formed w (λ node. Ok (FixedDatum bytes)) (λ node d u m k. same_kind w node d u m (FixedNode is.0 (length bytes)) (FixedDatum bytes) (node_fits W R w node (FixedNode is.0 (length bytes)) is.1 m u) k) r e h
    datum_whole (EnumDatum n) w r e is h = placed_whole W R formed w _ (λ node d u m k. enum_inside w node d u m n is k) r e h
    datum_whole (ArrayDatum ds) w r e is h = placed_whole W R formed w _ (λ node d u m k. array_inside w node d u m ds is (λ j es l. items_whole ds is.0 j es is.2 l) k) r e h
    datum_whole (MapDatum ps) w r e is h = placed_whole W R formed w _ (λ node d u m k. map_inside w node d u m ps is (λ j qs l. values_whole ps is.0 j qs is.2 l) k) r e h
    datum_whole (RecordDatum ds) w r e is h = placed_whole W R formed w _ (λ node d u m k. record_inside w node d u m ds is (λ gs final l. fields_whole ds gs (routes is.1 gs) (no_slots gs) final (fields_are_of W is.1 gs ds is.3) (routes_go gs is.1 (partners is.1 gs)) (none_seated R gs) l) k) r e h
    datum_whole (UnionDatum n d) w r e is h =
        let at : member_at (slice_get W w) n ≡ Some is.2 = ap (λ (o : Option Node). member_at o n) is.1 ∙ is.3 in
        datum_whole d is.2 r e is.4 (member_made (member_at (slice_get W w) n) w r is.2 (λ member. resolved W R member r d) e at h)

    items_whole : (ds : Data) (i j : ℕ) (es : Data) → ConformAll W i ds → resolved_items W R i j ds ≡ Ok es → ConformAll R j es
    items_whole no_more i j es is h = subst (ConformAll R j) (let e : no_more ≡ es = cc in e) tt
    items_whole (more d ds) i j es is h =
        let p = two (resolved W R i j d) (resolved_items W R i j ds) more es h in
        subst (ConformAll R j) p.4 (datum_whole d i j p.0 is.0 p.2, items_whole ds i j p.1 is.1 p.3)

    values_whole : (ps : Pairs) (i j : ℕ) (qs : Pairs) → ConformPairs W i ps → resolved_values W R i j ps ≡ Ok qs → ConformPairs R j qs
    values_whole no_pairs i j qs is h = subst (ConformPairs R j) (let e : no_pairs ≡ qs = cc in e) tt
    values_whole (pair key d ps) i j qs is h =
        let p = two (resolved W R i j d) (resolved_values W R i j ps) (pair key) qs h in
        subst (ConformPairs R j) p.4 (is.0, datum_whole d i j p.0 is.1 p.2, values_whole ps i j p.1 is.2 p.3)

    fields_whole : (ds : Data) (gs : List FieldNode) (routes : List Route) (slots final : Slots) → AreOf W routes ds → GoTo gs routes → Seated R gs slots → resolved_fields W R slots routes ds ≡ Ok final → Seated R gs final
    fields_whole no_more gs [] slots final of go s h = subst (Seated R gs) (let same : slots ≡ final = cc in same) s
    fields_whole no_more gs (r ∷ routes) slots final of go s h = absurd of
    fields_whole (more d ds) gs [] slots final of go s h = absurd of
    fields_whole (more d ds) gs (r ∷ routes) slots final of go s h =
        one_put W R r d (λ slots. resolved_fields W R slots routes ds) (Seated R gs) final (λ slots s h. fields_whole ds gs routes slots final of.1 go.1 s h) r.partner slots s (field_seated W R gs r d slots s (λ p e k. datum_whole d r.node p.node e of.0 k) r.partner go.0) h

pub whole : (W R : List Node) → IsWellFormed R → DefaultsConform R → ResolutionIsWhole W R
whole W R formed defaults w r d e is h = datum_whole W R formed defaults d w r e is h
