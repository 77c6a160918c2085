-- Each mismatch of a writer's datum is at a bad pair that is reached, or is of bytes: by recursion on the datum.
use Rattle.std.proofs.Common.{◌≡◌, ℕ, zero, suc, ◌<◌, Bool, true, false, cond, List, [], ◌∷◌, length, slice_get, slice_set, Option, Some, None, IfSome, Ok, Err, refl, inl, inr, sym, ap, subst, ◌∙◌, arith}
use Rattle.std.specs.Str.{is_utf8}
use Rattle.spec_avro.specs.Node.{Node, FieldNode, NullNode, BooleanNode, IntNode, LongNode, BytesNode, TextNode, FixedNode, EnumNode, ArrayNode, MapNode, UnionNode, RecordNode}
use Rattle.spec_avro.specs.WellFormed.{IsMember, IsWellFormed, is_union}
use Rattle.spec_avro.specs.Datum.{Datum, Data, Pairs, NullDatum, BooleanDatum, IntDatum, LongDatum, BytesDatum, TextDatum, FixedDatum, EnumDatum, ArrayDatum, MapDatum, UnionDatum, RecordDatum, no_more, more, no_pairs, pair}
use Rattle.spec_avro.specs.Conforming.{Conforms, ConformAll, ConformPairs}
use Rattle.spec_avro.specs.declared.mismatch.MismatchKind.TheVariants.{NoMatch, NoSymbol, BytesNotText}
use Rattle.spec_avro.specs.declared.place.Partner.{Partner}
use Rattle.spec_avro.specs.declared.place.Route.{Route}
use Rattle.spec_avro.specs.declared.place.Destination.{Destination}
use Rattle.spec_avro.specs.declared.place.Destination.TheVariants.{Straight, IntoMember, Nowhere, Unmatched}
use Rattle.spec_avro.specs.Matching.{both_items, both_values, matches, place, place_at}
use Rattle.spec_avro.specs.Options.{given}
use Rattle.spec_avro.specs.Partners.{routes}
use Rattle.spec_avro.specs.Resolution.{Resolved, ◌>>=◌, Slots, mismatch, placed, bytes_for, symbol_at, symbol_for, member_at, field_lists, filled, lacking, no_slots, unless_lacking, int_for, text_for, resolved, resolved_items, resolved_values, resolved_fields}
use Rattle.spec_avro.specs.Safety.{GoesStraight, Pair, Reached, is_enum, root, step, to_branch, to_field, to_items, to_member, to_values}
use Rattle.resolver.proofs.Fitting.{is_a_union, node_fits}
use Rattle.resolver.proofs.Members.{found, member_in, never_else, no_union_at}
use Rattle.resolver.proofs.Seats.{AreOf, fields_are_of}
use Rattle.schema_check.specs.BadKinds.{no_branch, no_default, no_match, no_symbol}
use Rattle.schema_check.specs.Mismatches.{HasBadPair, MismatchesHaveBadPairs}
use Rattle.resolver.specs.Laws.Plain.{within, not_into, straight_if}

then_has_pair : {A B : Type 0} (W R : List Node) (x : Resolved A) (f : A → Resolved B) → HasBadPair W R x → ((a : A) → x ≡ Ok a → HasBadPair W R (f a)) → HasBadPair W R (x >>= f)
then_has_pair W R (Ok a) f x h = h a refl
then_has_pair W R (Err m) f x h = x

text_has_pair : (W R : List Node) (b : Bool) (w r : ℕ) (bytes : List ℕ) → HasBadPair {A = Datum} W R (cond b (Ok (TextDatum bytes)) (mismatch BytesNotText w r))
text_has_pair W R true w r bytes = tt
text_has_pair W R false w r bytes = inl refl

bytes_has_pair : (W R : List Node) (o : Option Node) (w r : ℕ) (bytes : List ℕ) → HasBadPair W R (bytes_for o w r bytes)
bytes_has_pair W R (Some TextNode) w r bytes = text_has_pair W R (is_utf8 bytes) w r bytes
bytes_has_pair W R o w r bytes = tt

module _ (W R : List Node) (formed : IsWellFormed R) where
  -- a datum goes straight only where the node matches and is no union
  no_union_by : (w r : ℕ) (b : Bool) → is_union (slice_get R r) ≡ b → place W R w r ≡ Straight → b ≡ false
  no_union_by w r false is e = refl
  no_union_by w r true is e =
      let u = is_a_union (slice_get R r) is in
      absurd (never_else (matches W R w) 0 u.0 Straight (sym (ap (λ (o : Option Node). place_at (matches W R w) o r) u.1) ∙ e) refl)

  no_union : (w r : ℕ) → place W R w r ≡ Straight → is_union (slice_get R r) ≡ false
  no_union w r e = no_union_by w r (is_union (slice_get R r)) refl e

  matched : (w r : ℕ) → place W R w r ≡ Straight → matches W R w r ≡ true
  matched w r e = straight_if (matches W R w r) (sym (no_union_at (matches W R w) (slice_get R r) r (no_union w r e)) ∙ e)

  -- ---- a datum by its place

  module _ (w : ℕ) (u : is_union (slice_get W w) ≡ false) (value : ℕ → Resolved Datum) (inner : (node : ℕ) → Reached W R (w, node) → GoesStraight W R w node → HasBadPair W R (value node)) where
    member_straight : (r : ℕ) (b : Bool) → is_union (slice_get R r) ≡ b → (position node : ℕ) → place W R w r ≡ IntoMember position node → place W R w node ≡ Straight
    member_straight r false is position node e = absurd (not_into (matches W R w r) position node (sym (no_union_at (matches W R w) (slice_get R r) r is) ∙ e))
    member_straight r true is position node e =
        let s = is_a_union (slice_get R r) is in
        let f = found (matches W R w) 0 s.0 position node (sym (ap (λ (o : Option Node). place_at (matches W R w) o r) s.1) ∙ e) in
        let m = member_in (IsMember R r) s.0 f.steps node (formed.each r (UnionNode s.0) s.1).0 f.member in
        no_union_at (matches W R w) (slice_get R node) node m.no_union ∙ ap (λ (b : Bool). cond b Straight Unmatched) f.matching

    by_place : (r : ℕ) (p : Destination) → place W R w r ≡ p → Reached W R (w, r) → HasBadPair W R (placed p w r value)
    by_place r Straight e reach = inner r reach (record { no_union = u; straight = e })
    by_place r (IntoMember position node) e reach =
        let there = step (w, r) (w, node) reach (to_branch position u e) in
        let goes : GoesStraight W R w node = record { no_union = u; straight = member_straight r (is_union (slice_get R r)) refl position node e } in
        then_has_pair W R (value node) (λ d. Ok (UnionDatum position d)) (inner node there goes) (λ d h. tt)
    by_place r Nowhere e reach = inr (record { p = (w, r); reached = reach; bad = no_branch u e; writer = refl; reader = inl refl })
    by_place r Unmatched e reach = inr (record { p = (w, r); reached = reach; bad = no_match u e; writer = refl; reader = inl refl })

    pub placed_has_pair : (r : ℕ) → Reached W R (w, r) → HasBadPair W R (placed (place W R w r) w r value)
    placed_has_pair r reach = by_place r (place W R w r) refl reach

  -- ---- a datum in the reader's node itself

  module _ (w node : ℕ) (reach : Reached W R (w, node)) (goes : GoesStraight W R w node) where
    enum_has_pair : (n : ℕ) → (is : Conforms W w (EnumDatum n)) → HasBadPair {A = Datum} W R (given (symbol_at (slice_get W w) n) (mismatch NoMatch w node) (λ symbol. given (symbol_for (slice_get R node) symbol) (mismatch NoSymbol w node) (λ m. Ok (EnumDatum m))))
    enum_has_pair n is =
        let f = node_fits W R w node (EnumNode is.0 is.1 is.2) is.3 (matched w node goes.straight) (no_union w node goes.straight) in
        let s = within is.1 n is.4 in
        let ours : symbol_at (slice_get W w) n ≡ Some s.0 = ap (λ (o : Option Node). symbol_at o n) is.3 ∙ s.1 in
        subst (λ (o : Option (List ℕ)). HasBadPair {A = Datum} W R (given o (mismatch NoMatch w node) (λ symbol. given (symbol_for (slice_get R node) symbol) (mismatch NoSymbol w node) (λ m. Ok (EnumDatum m))))) (sym ours)
        (there s.0 ours (ap is_enum f.3) (symbol_for (slice_get R node) s.0) refl) where
          there : (symbol : List ℕ) → symbol_at (slice_get W w) n ≡ Some symbol → is_enum (slice_get R node) ≡ true → (o : Option ℕ) → symbol_for (slice_get R node) symbol ≡ o → HasBadPair {A = Datum} W R (given o (mismatch NoSymbol w node) (λ m. Ok (EnumDatum m)))
          there symbol ours enum None none = inr (record { p = (w, node); reached = reach; bad = no_symbol n symbol goes ours enum none; writer = refl; reader = inl refl })
          there symbol ours enum (Some m) some = tt

    array_has_pair : (ds : Data) → (is : Conforms W w (ArrayDatum ds)) → ((j : ℕ) → Reached W R (is.0, j) → HasBadPair W R (resolved_items W R is.0 j ds)) → HasBadPair W R (given (both_items (slice_get W w) (slice_get R node)) (mismatch NoMatch w node) (λ p. resolved_items W R p.0 p.1 ds >>= λ es. Ok (ArrayDatum es)))
    array_has_pair ds is items =
        let f = node_fits W R w node (ArrayNode is.0) is.1 (matched w node goes.straight) (no_union w node goes.straight) in
        let both : both_items (slice_get W w) (slice_get R node) ≡ Some (is.0, f.0) = ap (λ (o : Option Node). both_items o (slice_get R node)) is.1 ∙ ap (λ (o : Option Node). both_items (Some (ArrayNode is.0)) o) f.1 in
        subst (λ (o : Option Pair). HasBadPair W R (given o (mismatch NoMatch w node) (λ p. resolved_items W R p.0 p.1 ds >>= λ es. Ok (ArrayDatum es)))) (sym both)
        (then_has_pair W R (resolved_items W R is.0 f.0 ds) (λ es. Ok (ArrayDatum es)) (items f.0 (step (w, node) (is.0, f.0) reach (to_items goes both))) (λ es h. tt))

    map_has_pair : (ps : Pairs) → (is : Conforms W w (MapDatum ps)) → ((j : ℕ) → Reached W R (is.0, j) → HasBadPair W R (resolved_values W R is.0 j ps)) → HasBadPair W R (given (both_values (slice_get W w) (slice_get R node)) (mismatch NoMatch w node) (λ p. resolved_values W R p.0 p.1 ps >>= λ qs. Ok (MapDatum qs)))
    map_has_pair ps is values =
        let f = node_fits W R w node (MapNode is.0) is.1 (matched w node goes.straight) (no_union w node goes.straight) in
        let both : both_values (slice_get W w) (slice_get R node) ≡ Some (is.0, f.0) = ap (λ (o : Option Node). both_values o (slice_get R node)) is.1 ∙ ap (λ (o : Option Node). both_values (Some (MapNode is.0)) o) f.1 in
        subst (λ (o : Option Pair). HasBadPair W R (given o (mismatch NoMatch w node) (λ p. resolved_values W R p.0 p.1 ps >>= λ qs. Ok (MapDatum qs)))) (sym both)
        (then_has_pair W R (resolved_values W R is.0 f.0 ps) (λ qs. Ok (MapDatum qs)) (values f.0 (step (w, node) (is.0, f.0) reach (to_values goes both))) (λ qs h. tt))

    record_has_pair : (ds : Data) → (is : Conforms W w (RecordDatum ds)) → ((gs : List FieldNode) → ((i : ℕ) (route : Route) (p : Partner) → slice_get (routes is.1 gs) i ≡ Some route → route.partner ≡ Some p → Reached W R (route.node, p.node)) → HasBadPair W R (resolved_fields W R (no_slots gs) (routes is.1 gs) ds)) → HasBadPair W R (given (field_lists (slice_get W w) (slice_get R node)) (mismatch NoMatch w node) (λ p. unless_lacking (lacking p.0 p.1) w (resolved_fields W R (no_slots p.1) (routes p.0 p.1) ds >>= λ slots. Ok (RecordDatum (filled p.1 slots)))))
    record_has_pair ds is fields =
        let fs = is.1 in
        let f = node_fits W R w node (RecordNode is.0 fs) is.2 (matched w node goes.straight) (no_union w node goes.straight) in
        let gs = f.1 in
        let lists : field_lists (slice_get W w) (slice_get R node) ≡ Some (fs, gs) = ap (λ (o : Option Node). field_lists o (slice_get R node)) is.2 ∙ ap (λ (o : Option Node). field_lists (Some (RecordNode is.0 fs)) o) f.2 in
        let there = fields gs (λ i route p at has. step (w, node) (route.node, p.node) reach (to_field i fs gs route p goes lists at has)) in
        subst (λ (o : Option (List FieldNode × List FieldNode)). HasBadPair W R (given o (mismatch NoMatch w node) (λ p. unless_lacking (lacking p.0 p.1) w (resolved_fields W R (no_slots p.1) (routes p.0 p.1) ds >>= λ slots. Ok (RecordDatum (filled p.1 slots)))))) (sym lists)
        (not_lacking gs lists (lacking fs gs) refl (then_has_pair W R (resolved_fields W R (no_slots gs) (routes fs gs) ds) (λ slots. Ok (RecordDatum (filled gs slots))) there (λ slots h. tt))) where
          not_lacking : (gs : List FieldNode) → field_lists (slice_get W w) (slice_get R node) ≡ Some (is.1, gs) → (o : Option FieldNode) → lacking is.1 gs ≡ o → HasBadPair W R (resolved_fields W R (no_slots gs) (routes is.1 gs) ds >>= λ slots. Ok (RecordDatum (filled gs slots))) → HasBadPair W R (unless_lacking o w (resolved_fields W R (no_slots gs) (routes is.1 gs) ds >>= λ slots. Ok (RecordDatum (filled gs slots))))
          not_lacking gs lists None none x = x
          not_lacking gs lists (Some g) some x = inr (record { p = (w, node); reached = reach; bad = no_default is.1 gs g goes lists some; writer = refl; reader = inr (is.1, gs, g, lists, some, refl) })

  -- a field that has a partner, and then the others
  field_has_pair : (r : Route) (d : Datum) (slots : Slots) (rest : Slots → Resolved Slots) (o : Option Partner) → IfSome o (λ p. HasBadPair W R (resolved W R r.node p.node d)) → ((slots : Slots) → HasBadPair W R (rest slots)) → HasBadPair W R (given o (rest slots) (λ p. resolved W R r.node p.node d >>= λ e. rest (slice_set slots p.position (Some e))))
  field_has_pair r d slots rest None its others = others slots
  field_has_pair r d slots rest (Some p) its others = then_has_pair W R (resolved W R r.node p.node d) (λ e. rest (slice_set slots p.position (Some e))) its (λ e h. others (slice_set slots p.position (Some e)))

  plain : (w : ℕ) (k : Node) → slice_get W w ≡ Some k → is_union (Some k) ≡ false → is_union (slice_get W w) ≡ false
  plain w k at u = ap is_union at ∙ u

  its_own : (r : Route) (d : Datum) (o : Option Partner) → ((p : Partner) → Reached W R (r.node, p.node) → Conforms W r.node d → HasBadPair W R (resolved W R r.node p.node d)) → ((p : Partner) → r.partner ≡ Some p → Reached W R (r.node, p.node)) → r.partner ≡ o → Conforms W r.node d → IfSome o (λ p. HasBadPair W R (resolved W R r.node p.node d))
  its_own r d None its there is c = tt
  its_own r d (Some p) its there is c = its p (there p is) c

  mutual
    unfolding resolved resolved_items resolved_values resolved_fields

    datum_has_pair : (d : Datum) (w r : ℕ) → Reached W R (w, r) → Conforms W w d → HasBadPair W R (resolved W R w r d)
    datum_has_pair NullDatum w r reach is = placed_has_pair w (plain w NullNode is refl) (λ node. Ok NullDatum) (λ node q s. tt) r reach
    datum_has_pair (BooleanDatum b) w r reach is = placed_has_pair w (plain w BooleanNode is refl) (λ node. Ok (BooleanDatum b)) (λ node q s. tt) r reach
    datum_has_pair (IntDatum n) w r reach is = placed_has_pair w (plain w IntNode is.0 refl) (λ node. Ok (int_for (slice_get R node) (IntDatum n))) (λ node q s. tt) r reach
    datum_has_pair (LongDatum n) w r reach is = placed_has_pair w (plain w LongNode is.0 refl) (λ node. Ok (LongDatum n)) (λ node q s. tt) r reach
    datum_has_pair (BytesDatum bytes) w r reach is = placed_has_pair w (plain w BytesNode is refl) (λ node. bytes_for (slice_get R node) w node bytes) (λ node q s. bytes_has_pair W R (slice_get R node) w node bytes) r reach
    datum_has_pair (TextDatum text) w r reach is = placed_has_pair w (plain w TextNode is.0 refl) (λ node. Ok (text_for (slice_get R node) text)) (λ node q s. tt) r reach
    datum_has_pair (FixedDatum bytes) w r reach is = placed_has_pair w (plain w (FixedNode is.0 (length bytes)) is.1 refl) (λ node. Ok (FixedDatum bytes)) (λ node q s. tt) r reach
    datum_has_pair (EnumDatum n) w r reach is = placed_has_pair w (plain w (EnumNode is.0 is.1 is.2) is.3 refl) _ (λ node q s. enum_has_pair w node q s n is) r reach
    datum_has_pair (ArrayDatum ds) w r reach is = placed_has_pair w (plain w (ArrayNode is.0) is.1 refl) _ (λ node q s. array_has_pair w node q s ds is (λ j t. items_has_pair ds is.0 j t is.2)) r reach
    datum_has_pair (MapDatum ps) w r reach is = placed_has_pair w (plain w (MapNode is.0) is.1 refl) _ (λ node q s. map_has_pair w node q s ps is (λ j t. values_has_pair ps is.0 j t is.2)) r reach
    datum_has_pair (RecordDatum ds) w r reach is = placed_has_pair w (plain w (RecordNode is.0 is.1) is.2 refl) _ (λ node q s. record_has_pair w node q s ds is (λ gs t. fields_has_pair ds (routes is.1 gs) (no_slots gs) t (fields_are_of W is.1 gs ds is.3))) r reach
    datum_has_pair (UnionDatum n d) w r reach is =
        let at : member_at (slice_get W w) n ≡ Some is.2 = ap (λ (o : Option Node). member_at o n) is.1 ∙ is.3 in
        let there = step (w, r) (is.2, r) reach (to_member n is.0 is.1 is.3) in
        subst (λ (o : Option ℕ). HasBadPair W R (given o (mismatch NoMatch w r) (λ member. resolved W R member r d))) (sym at) (datum_has_pair d is.2 r there is.4)

    items_has_pair : (ds : Data) (i j : ℕ) → Reached W R (i, j) → ConformAll W i ds → HasBadPair W R (resolved_items W R i j ds)
    items_has_pair no_more i j reach is = tt
    items_has_pair (more d ds) i j reach is =
        then_has_pair W R (resolved W R i j d) (λ e. resolved_items W R i j ds >>= λ es. Ok (more e es)) (datum_has_pair d i j reach is.0) (λ e h. then_has_pair W R (resolved_items W R i j ds) (λ es. Ok (more e es)) (items_has_pair ds i j reach is.1) (λ es l. tt))

    values_has_pair : (ps : Pairs) (i j : ℕ) → Reached W R (i, j) → ConformPairs W i ps → HasBadPair W R (resolved_values W R i j ps)
    values_has_pair no_pairs i j reach is = tt
    values_has_pair (pair key d ps) i j reach is =
        then_has_pair W R (resolved W R i j d) (λ e. resolved_values W R i j ps >>= λ qs. Ok (pair key e qs)) (datum_has_pair d i j reach is.1) (λ e h. then_has_pair W R (resolved_values W R i j ps) (λ qs. Ok (pair key e qs)) (values_has_pair ps i j reach is.2) (λ qs l. tt))

    fields_has_pair : (ds : Data) (routes : List Route) (slots : Slots) → ((i : ℕ) (route : Route) (p : Partner) → slice_get routes i ≡ Some route → route.partner ≡ Some p → Reached W R (route.node, p.node)) → AreOf W routes ds → HasBadPair W R (resolved_fields W R slots routes ds)
    fields_has_pair no_more [] slots there of = tt
    fields_has_pair no_more (r ∷ routes) slots there of = tt
    fields_has_pair (more d ds) [] slots there of = tt
    fields_has_pair (more d ds) (r ∷ routes) slots there of =
        field_has_pair r d slots (λ slots. resolved_fields W R slots routes ds) r.partner (its_own r d r.partner (λ p. datum_has_pair d r.node p.node) (λ p e. there 0 r p refl e) refl of.0) (λ slots. fields_has_pair ds routes slots (λ i. there (suc i)) of.1)

pub mismatches_have_bad_pairs : MismatchesHaveBadPairs
mismatches_have_bad_pairs W R d formed is = datum_has_pair W R formed d 0 0 root is
