-- Each mismatch of a writer's datum has a line: by recursion on the datum.
use Rattle.std.proofs.Common.{◌≡◌, ℕ, zero, suc, ◌+◌, ◌<◌, Bool, true, false, cond, List, [], ◌∷◌, length, slice_get, slice_set, Option, Some, None, IfSome, Ok, Err, refl, inl, inr, sym, ap, subst, ◌∙◌, arith}
use Rattle.std.specs.Str.{is_utf8}
use Rattle.spec_avro.specs.Node.{Node, FieldNode, NullNode, BooleanNode, IntNode, LongNode, BytesNode, TextNode, FixedNode, EnumNode, ArrayNode, MapNode, UnionNode, RecordNode}
use Rattle.spec_avro.specs.WellFormed.{IsMember, IsWellFormed, is_union}
use Rattle.spec_avro.specs.Datum.{Datum, Data, Pairs, NullDatum, BooleanDatum, IntDatum, LongDatum, BytesDatum, TextDatum, FixedDatum, EnumDatum, ArrayDatum, MapDatum, UnionDatum, RecordDatum, no_more, more, no_pairs, pair}
use Rattle.spec_avro.specs.Conforming.{Conforms, ConformAll, ConformPairs}
use Rattle.spec_avro.specs.declared.mismatch.MismatchKind.TheVariants.{NoMatch, NoBranch, NoDefault, NoSymbol, BytesNotText}
use Rattle.spec_avro.specs.declared.mismatch.MismatchKind.{MismatchKind}
use Rattle.spec_avro.specs.declared.place.Partner.{Partner}
use Rattle.spec_avro.specs.declared.place.Route.{Route}
use Rattle.spec_avro.specs.declared.place.Destination.{Destination}
use Rattle.spec_avro.specs.declared.place.Destination.TheVariants.{Straight, IntoMember, Nowhere, Unmatched}
use Rattle.spec_avro.specs.Matching.{both_items, both_values, matches, place, place_at}
use Rattle.spec_avro.specs.Options.{given}
use Rattle.spec_avro.specs.Partners.{routes, PartnersAreApart}
use Rattle.spec_avro.specs.Resolution.{Resolved, ◌>>=◌, Slots, mismatch, placed, bytes_for, symbol_at, symbol_for, member_at, field_lists, filled, lacking, no_slots, unless_lacking, int_for, text_for, resolved, resolved_items, resolved_values, resolved_fields}
use Rattle.spec_avro.specs.Safety.{GoesStraight, Pair, Reached, is_enum, root, step, to_branch, to_field, to_items, to_member, to_values}
use Rattle.resolver.proofs.Fitting.{is_a_union, node_fits}
use Rattle.resolver.proofs.Members.{found, member_in, never_else, no_union_at}
use Rattle.resolver.proofs.Seats.{AreOf, fields_are_of}
use Rattle.schema_explain.specs.Arrivals.{fate_in, straight}
use Rattle.schema_explain.specs.Explanation.{roots}
use Rattle.schema_explain.specs.Lines.{EachMismatchHasALine, HasLine, IsLineOf, ShowsMismatch, SomeLine}
use Rattle.schema_explain.specs.Parts.{absent_line, symbol_line}
use Rattle.schema_explain.specs.declared.arrivals.Arrival.{Arrival}
use Rattle.schema_explain.specs.declared.entries.Entry.TheVariants.{Due}
use Rattle.schema_explain.specs.declared.line.Fate.TheVariants as fates
use Rattle.schema_explain.specs.declared.line.Line.{Line}
use Rattle.schema_explain.proofs.Arriving.{arrival_straight}
use Rattle.schema_explain.proofs.BadLines.{IsLineWith, lacking_line, missing_line, nowhere_line, unmatched_line}
use Rattle.schema_explain.proofs.Complete.{Complete, complete}
use Rattle.schema_explain.proofs.Lacking.{lacks_default}
use Rattle.schema_explain.proofs.Whole.{map_lines, reached_line}
use Rattle.resolver.specs.Laws.Plain.{within, not_into, straight_if}

then_has_line : {A B : Type 0} (lines : List Line) (x : Resolved A) (f : A → Resolved B) → HasLine lines x → ((a : A) → x ≡ Ok a → HasLine lines (f a)) → HasLine lines (x >>= f)
then_has_line lines (Ok a) f x h = h a refl
then_has_line lines (Err m) f x h = x

module _ (W R : List Node) (writer_formed : IsWellFormed W) (formed : IsWellFormed R) (apart : PartnersAreApart) (lines : List Line) (c : Complete W R (Due roots ∷ []) [] lines) where
  -- ---- lines that show mismatches

  shown_with : (kind : MismatchKind) (w r : ℕ) → SomeLine (IsLineWith W R writer_formed formed apart lines c kind w r) lines → SomeLine (ShowsMismatch (record { kind = kind; writer_node = w; reader_node = r })) lines
  shown_with kind w r some = map_lines (IsLineWith W R writer_formed formed apart lines c kind w r) (ShowsMismatch (record { kind = kind; writer_node = w; reader_node = r })) lines (λ line l. record { writer = l.writer; reader = l.reader; fate = inl l.fate }) some

  shown_symbol : (w r i : ℕ) → ((depth : ℕ) × SomeLine (λ l. l ≡ symbol_line (record { depth = depth; writer = w; reader = r }) i (fates.Mismatch NoSymbol)) lines) → SomeLine (ShowsMismatch (record { kind = NoSymbol; writer_node = w; reader_node = r })) lines
  shown_symbol w r i f = map_lines (λ l. l ≡ symbol_line (record { depth = f.0; writer = w; reader = r }) i (fates.Mismatch NoSymbol)) (ShowsMismatch (record { kind = NoSymbol; writer_node = w; reader_node = r })) lines
      (λ line same. record { writer = ap (λ (l : Line). l.writer) same; reader = ap (λ (l : Line). l.reader) same; fate = inl (ap (λ (l : Line). l.fate) same) }) f.1

  shown_absent : (w r : ℕ) (ws rs : List FieldNode) (g : FieldNode) → Reached W R (w, r) → GoesStraight W R w r → field_lists (slice_get W w) (slice_get R r) ≡ Some (ws, rs) → lacking ws rs ≡ Some g → SomeLine (ShowsMismatch (record { kind = NoDefault; writer_node = w; reader_node = g.node })) lines
  shown_absent w r ws rs g reach goes lists lack =
      let f = lacking_line W R writer_formed formed apart lines c w r ws rs g reach goes lists lack in
      let undefaulted = lacks_default (routes ws rs) (0 + f.k) g f.lacking in
      map_lines (λ l. l ≡ absent_line (record { depth = f.depth; writer = w; reader = r }) (0 + f.k) g) (ShowsMismatch (record { kind = NoDefault; writer_node = w; reader_node = g.node })) lines
      (λ line same. record {
        writer = ap (λ (l : Line). l.writer) same ∙ ap (λ (b : Bool). cond b (Some w) None) undefaulted;
        reader = ap (λ (l : Line). l.reader) same;
        fate = inl (ap (λ (l : Line). l.fate) same ∙ ap (λ (b : Bool). cond b (fates.Mismatch NoDefault) fates.Default) undefaulted);
      }) f.line

  shown_bytes : (w r : ℕ) → slice_get W w ≡ Some BytesNode → slice_get R r ≡ Some TextNode → Reached W R (w, r) → GoesStraight W R w r → SomeLine (ShowsMismatch (record { kind = BytesNotText; writer_node = w; reader_node = r })) lines
  shown_bytes w r ours other reach goes =
      let to = arrival_straight W R w r goes ∙ ap (λ (o : Option Node). straight r (fate_in o (slice_get R r))) ours ∙ ap (λ (o : Option Node). straight r (fate_in (Some BytesNode) o)) other in
      map_lines (IsLineOf W R (w, r)) (ShowsMismatch (record { kind = BytesNotText; writer_node = w; reader_node = r })) lines
      (λ line l. record { writer = l.writer; reader = l.reader ∙ ap (λ (a : Arrival). Some a.node) to; fate = inr (refl, l.fate ∙ ap (λ (a : Arrival). a.fate) to) })
      (reached_line W R writer_formed formed apart lines c (w, r) reach)

  text_has_line : (b : Bool) (w r : ℕ) (bytes : List ℕ) → SomeLine (ShowsMismatch (record { kind = BytesNotText; writer_node = w; reader_node = r })) lines → HasLine {A = Datum} lines (cond b (Ok (TextDatum bytes)) (mismatch BytesNotText w r))
  text_has_line true w r bytes some = tt
  text_has_line false w r bytes some = some

  bytes_has_line : (w r : ℕ) (bytes : List ℕ) → slice_get W w ≡ Some BytesNode → Reached W R (w, r) → GoesStraight W R w r → (o : Option Node) → slice_get R r ≡ o → HasLine lines (bytes_for o w r bytes)
  bytes_has_line w r bytes ours reach goes (Some TextNode) other = text_has_line (is_utf8 bytes) w r bytes (shown_bytes w r ours other reach goes)
  bytes_has_line w r bytes ours reach goes o other = tt

  -- a datum goes straight only where the node matches and is no union
  no_union_by : (w r : ℕ) (b : Bool) → is_union (slice_get R r) ≡ b → place W R w r ≡ Straight → b ≡ false
  no_union_by w r false is e = refl
  no_union_by w r true is e =
      let u = is_a_union (slice_get R r) is in
      absurd (never_else (matches W R w) 0 u.0 Straight (sym (ap (λ (o : Option Node). place_at (matches W R w) o r) u.1) ∙ e) refl)

  no_union : (w r : ℕ) → place W R w r ≡ Straight → is_union (slice_get R r) ≡ false
  no_union w r e = no_union_by w r (is_union (slice_get R r)) refl e

  matched : (w r : ℕ) → place W R w r ≡ Straight → matches W R w r ≡ true
  matched w r e = straight_if (matches W R w r) (sym (no_union_at (matches W R w) (slice_get R r) r (no_union w r e)) ∙ e)

  -- ---- a datum by its place

  module _ (w : ℕ) (u : is_union (slice_get W w) ≡ false) (value : ℕ → Resolved Datum) (inner : (node : ℕ) → Reached W R (w, node) → GoesStraight W R w node → HasLine lines (value node)) where
    member_straight : (r : ℕ) (b : Bool) → is_union (slice_get R r) ≡ b → (position node : ℕ) → place W R w r ≡ IntoMember position node → place W R w node ≡ Straight
    member_straight r false is position node e = absurd (not_into (matches W R w r) position node (sym (no_union_at (matches W R w) (slice_get R r) r is) ∙ e))
    member_straight r true is position node e =
        let s = is_a_union (slice_get R r) is in
        let f = found (matches W R w) 0 s.0 position node (sym (ap (λ (o : Option Node). place_at (matches W R w) o r) s.1) ∙ e) in
        let m = member_in (IsMember R r) s.0 f.steps node (formed.each r (UnionNode s.0) s.1).0 f.member in
        no_union_at (matches W R w) (slice_get R node) node m.no_union ∙ ap (λ (b : Bool). cond b Straight Unmatched) f.matching

    by_place : (r : ℕ) (p : Destination) → place W R w r ≡ p → Reached W R (w, r) → HasLine lines (placed p w r value)
    by_place r Straight e reach = inner r reach (record { no_union = u; straight = e })
    by_place r (IntoMember position node) e reach =
        let there = step (w, r) (w, node) reach (to_branch position u e) in
        let goes : GoesStraight W R w node = record { no_union = u; straight = member_straight r (is_union (slice_get R r)) refl position node e } in
        then_has_line lines (value node) (λ d. Ok (UnionDatum position d)) (inner node there goes) (λ d h. tt)
    by_place r Nowhere e reach = shown_with NoBranch w r (nowhere_line W R writer_formed formed apart lines c w r reach u e)
    by_place r Unmatched e reach = shown_with NoMatch w r (unmatched_line W R writer_formed formed apart lines c w r reach u e)

    pub placed_has_line : (r : ℕ) → Reached W R (w, r) → HasLine lines (placed (place W R w r) w r value)
    placed_has_line r reach = by_place r (place W R w r) refl reach

  -- ---- a datum in the reader's node itself

  module _ (w node : ℕ) (reach : Reached W R (w, node)) (goes : GoesStraight W R w node) where
    enum_has_line : (n : ℕ) → (is : Conforms W w (EnumDatum n)) → HasLine {A = Datum} lines (given (symbol_at (slice_get W w) n) (mismatch NoMatch w node) (λ symbol. given (symbol_for (slice_get R node) symbol) (mismatch NoSymbol w node) (λ m. Ok (EnumDatum m))))
    enum_has_line n is =
        let f = node_fits W R w node (EnumNode is.0 is.1 is.2) is.3 (matched w node goes.straight) (no_union w node goes.straight) in
        let s = within is.1 n is.4 in
        let ours : symbol_at (slice_get W w) n ≡ Some s.0 = ap (λ (o : Option Node). symbol_at o n) is.3 ∙ s.1 in
        subst (λ (o : Option (List ℕ)). HasLine {A = Datum} lines (given o (mismatch NoMatch w node) (λ symbol. given (symbol_for (slice_get R node) symbol) (mismatch NoSymbol w node) (λ m. Ok (EnumDatum m))))) (sym ours)
        (there s.0 ours (ap is_enum f.3) (symbol_for (slice_get R node) s.0) refl) where
          there : (symbol : List ℕ) → symbol_at (slice_get W w) n ≡ Some symbol → is_enum (slice_get R node) ≡ true → (o : Option ℕ) → symbol_for (slice_get R node) symbol ≡ o → HasLine {A = Datum} lines (given o (mismatch NoSymbol w node) (λ m. Ok (EnumDatum m)))
          there symbol ours enum None none = shown_symbol w node n (missing_line W R writer_formed formed apart lines c w node n symbol reach goes ours enum none)
          there symbol ours enum (Some m) some = tt

    array_has_line : (ds : Data) → (is : Conforms W w (ArrayDatum ds)) → ((j : ℕ) → Reached W R (is.0, j) → HasLine lines (resolved_items W R is.0 j ds)) → HasLine lines (given (both_items (slice_get W w) (slice_get R node)) (mismatch NoMatch w node) (λ p. resolved_items W R p.0 p.1 ds >>= λ es. Ok (ArrayDatum es)))
    array_has_line ds is items =
        let f = node_fits W R w node (ArrayNode is.0) is.1 (matched w node goes.straight) (no_union w node goes.straight) in
        let both : both_items (slice_get W w) (slice_get R node) ≡ Some (is.0, f.0) = ap (λ (o : Option Node). both_items o (slice_get R node)) is.1 ∙ ap (λ (o : Option Node). both_items (Some (ArrayNode is.0)) o) f.1 in
        subst (λ (o : Option Pair). HasLine lines (given o (mismatch NoMatch w node) (λ p. resolved_items W R p.0 p.1 ds >>= λ es. Ok (ArrayDatum es)))) (sym both)
        (then_has_line lines (resolved_items W R is.0 f.0 ds) (λ es. Ok (ArrayDatum es)) (items f.0 (step (w, node) (is.0, f.0) reach (to_items goes both))) (λ es h. tt))

    map_has_line : (ps : Pairs) → (is : Conforms W w (MapDatum ps)) → ((j : ℕ) → Reached W R (is.0, j) → HasLine lines (resolved_values W R is.0 j ps)) → HasLine lines (given (both_values (slice_get W w) (slice_get R node)) (mismatch NoMatch w node) (λ p. resolved_values W R p.0 p.1 ps >>= λ qs. Ok (MapDatum qs)))
    map_has_line ps is values =
        let f = node_fits W R w node (MapNode is.0) is.1 (matched w node goes.straight) (no_union w node goes.straight) in
        let both : both_values (slice_get W w) (slice_get R node) ≡ Some (is.0, f.0) = ap (λ (o : Option Node). both_values o (slice_get R node)) is.1 ∙ ap (λ (o : Option Node). both_values (Some (MapNode is.0)) o) f.1 in
        subst (λ (o : Option Pair). HasLine lines (given o (mismatch NoMatch w node) (λ p. resolved_values W R p.0 p.1 ps >>= λ qs. Ok (MapDatum qs)))) (sym both)
        (then_has_line lines (resolved_values W R is.0 f.0 ps) (λ qs. Ok (MapDatum qs)) (values f.0 (step (w, node) (is.0, f.0) reach (to_values goes both))) (λ qs h. tt))

    record_has_line : (ds : Data) → (is : Conforms W w (RecordDatum ds)) → ((gs : List FieldNode) → ((i : ℕ) (route : Route) (p : Partner) → slice_get (routes is.1 gs) i ≡ Some route → route.partner ≡ Some p → Reached W R (route.node, p.node)) → HasLine lines (resolved_fields W R (no_slots gs) (routes is.1 gs) ds)) → HasLine lines (given (field_lists (slice_get W w) (slice_get R node)) (mismatch NoMatch w node) (λ p. unless_lacking (lacking p.0 p.1) w (resolved_fields W R (no_slots p.1) (routes p.0 p.1) ds >>= λ slots. Ok (RecordDatum (filled p.1 slots)))))
    record_has_line ds is fields =
        let fs = is.1 in
        let f = node_fits W R w node (RecordNode is.0 fs) is.2 (matched w node goes.straight) (no_union w node goes.straight) in
        let gs = f.1 in
        let lists : field_lists (slice_get W w) (slice_get R node) ≡ Some (fs, gs) = ap (λ (o : Option Node). field_lists o (slice_get R node)) is.2 ∙ ap (λ (o : Option Node). field_lists (Some (RecordNode is.0 fs)) o) f.2 in
        let there = fields gs (λ i route p at has. step (w, node) (route.node, p.node) reach (to_field i fs gs route p goes lists at has)) in
        subst (λ (o : Option (List FieldNode × List FieldNode)). HasLine lines (given o (mismatch NoMatch w node) (λ p. unless_lacking (lacking p.0 p.1) w (resolved_fields W R (no_slots p.1) (routes p.0 p.1) ds >>= λ slots. Ok (RecordDatum (filled p.1 slots)))))) (sym lists)
        (not_lacking gs lists (lacking fs gs) refl (then_has_line lines (resolved_fields W R (no_slots gs) (routes fs gs) ds) (λ slots. Ok (RecordDatum (filled gs slots))) there (λ slots h. tt))) where
          not_lacking : (gs : List FieldNode) → field_lists (slice_get W w) (slice_get R node) ≡ Some (is.1, gs) → (o : Option FieldNode) → lacking is.1 gs ≡ o → HasLine lines (resolved_fields W R (no_slots gs) (routes is.1 gs) ds >>= λ slots. Ok (RecordDatum (filled gs slots))) → HasLine lines (unless_lacking o w (resolved_fields W R (no_slots gs) (routes is.1 gs) ds >>= λ slots. Ok (RecordDatum (filled gs slots))))
          not_lacking gs lists None none x = x
          not_lacking gs lists (Some g) some x = shown_absent w node is.1 gs g reach goes lists some

  -- a field that has a partner, and then the others
  field_has_line : (r : Route) (d : Datum) (slots : Slots) (rest : Slots → Resolved Slots) (o : Option Partner) → IfSome o (λ p. HasLine lines (resolved W R r.node p.node d)) → ((slots : Slots) → HasLine lines (rest slots)) → HasLine lines (given o (rest slots) (λ p. resolved W R r.node p.node d >>= λ e. rest (slice_set slots p.position (Some e))))
  field_has_line r d slots rest None its others = others slots
  field_has_line r d slots rest (Some p) its others = then_has_line lines (resolved W R r.node p.node d) (λ e. rest (slice_set slots p.position (Some e))) its (λ e h. others (slice_set slots p.position (Some e)))

  plain : (w : ℕ) (k : Node) → slice_get W w ≡ Some k → is_union (Some k) ≡ false → is_union (slice_get W w) ≡ false
  plain w k at u = ap is_union at ∙ u

  its_own : (r : Route) (d : Datum) (o : Option Partner) → ((p : Partner) → Reached W R (r.node, p.node) → Conforms W r.node d → HasLine lines (resolved W R r.node p.node d)) → ((p : Partner) → r.partner ≡ Some p → Reached W R (r.node, p.node)) → r.partner ≡ o → Conforms W r.node d → IfSome o (λ p. HasLine lines (resolved W R r.node p.node d))
  its_own r d None its there is c = tt
  its_own r d (Some p) its there is c = its p (there p is) c

  mutual
    unfolding resolved resolved_items resolved_values resolved_fields

    datum_has_line : (d : Datum) (w r : ℕ) → Reached W R (w, r) → Conforms W w d → HasLine lines (resolved W R w r d)
    datum_has_line NullDatum w r reach is = placed_has_line w (plain w NullNode is refl) (λ node. Ok NullDatum) (λ node q s. tt) r reach
    datum_has_line (BooleanDatum b) w r reach is = placed_has_line w (plain w BooleanNode is refl) (λ node. Ok (BooleanDatum b)) (λ node q s. tt) r reach
    datum_has_line (IntDatum n) w r reach is = placed_has_line w (plain w IntNode is.0 refl) (λ node. Ok (int_for (slice_get R node) (IntDatum n))) (λ node q s. tt) r reach
    datum_has_line (LongDatum n) w r reach is = placed_has_line w (plain w LongNode is.0 refl) (λ node. Ok (LongDatum n)) (λ node q s. tt) r reach
    datum_has_line (BytesDatum bytes) w r reach is = placed_has_line w (plain w BytesNode is refl) (λ node. bytes_for (slice_get R node) w node bytes) (λ node q s. bytes_has_line w node bytes is q s (slice_get R node) refl) r reach
    datum_has_line (TextDatum text) w r reach is = placed_has_line w (plain w TextNode is.0 refl) (λ node. Ok (text_for (slice_get R node) text)) (λ node q s. tt) r reach
    datum_has_line (FixedDatum bytes) w r reach is = placed_has_line w (plain w (FixedNode is.0 (length bytes)) is.1 refl) (λ node. Ok (FixedDatum bytes)) (λ node q s. tt) r reach
    datum_has_line (EnumDatum n) w r reach is = placed_has_line w (plain w (EnumNode is.0 is.1 is.2) is.3 refl) _ (λ node q s. enum_has_line w node q s n is) r reach
    datum_has_line (ArrayDatum ds) w r reach is = placed_has_line w (plain w (ArrayNode is.0) is.1 refl) _ (λ node q s. array_has_line w node q s ds is (λ j t. items_has_line ds is.0 j t is.2)) r reach
    datum_has_line (MapDatum ps) w r reach is = placed_has_line w (plain w (MapNode is.0) is.1 refl) _ (λ node q s. map_has_line w node q s ps is (λ j t. values_has_line ps is.0 j t is.2)) r reach
    datum_has_line (RecordDatum ds) w r reach is = placed_has_line w (plain w (RecordNode is.0 is.1) is.2 refl) _ (λ node q s. record_has_line w node q s ds is (λ gs t. fields_has_line ds (routes is.1 gs) (no_slots gs) t (fields_are_of W is.1 gs ds is.3))) r reach
    datum_has_line (UnionDatum n d) w r reach is =
        let at : member_at (slice_get W w) n ≡ Some is.2 = ap (λ (o : Option Node). member_at o n) is.1 ∙ is.3 in
        let there = step (w, r) (is.2, r) reach (to_member n is.0 is.1 is.3) in
        subst (λ (o : Option ℕ). HasLine lines (given o (mismatch NoMatch w r) (λ member. resolved W R member r d))) (sym at) (datum_has_line d is.2 r there is.4)

    items_has_line : (ds : Data) (i j : ℕ) → Reached W R (i, j) → ConformAll W i ds → HasLine lines (resolved_items W R i j ds)
    items_has_line no_more i j reach is = tt
    items_has_line (more d ds) i j reach is =
        then_has_line lines (resolved W R i j d) (λ e. resolved_items W R i j ds >>= λ es. Ok (more e es)) (datum_has_line d i j reach is.0) (λ e h. then_has_line lines (resolved_items W R i j ds) (λ es. Ok (more e es)) (items_has_line ds i j reach is.1) (λ es l. tt))

    values_has_line : (ps : Pairs) (i j : ℕ) → Reached W R (i, j) → ConformPairs W i ps → HasLine lines (resolved_values W R i j ps)
    values_has_line no_pairs i j reach is = tt
    values_has_line (pair key d ps) i j reach is =
        then_has_line lines (resolved W R i j d) (λ e. resolved_values W R i j ps >>= λ qs. Ok (pair key e qs)) (datum_has_line d i j reach is.1) (λ e h. then_has_line lines (resolved_values W R i j ps) (λ qs. Ok (pair key e qs)) (values_has_line ps i j reach is.2) (λ qs l. tt))

    fields_has_line : (ds : Data) (routes : List Route) (slots : Slots) → ((i : ℕ) (route : Route) (p : Partner) → slice_get routes i ≡ Some route → route.partner ≡ Some p → Reached W R (route.node, p.node)) → AreOf W routes ds → HasLine lines (resolved_fields W R slots routes ds)
    fields_has_line no_more [] slots there of = tt
    fields_has_line no_more (r ∷ routes) slots there of = tt
    fields_has_line (more d ds) [] slots there of = tt
    fields_has_line (more d ds) (r ∷ routes) slots there of =
        field_has_line r d slots (λ slots. resolved_fields W R slots routes ds) r.partner (its_own r d r.partner (λ p. datum_has_line d r.node p.node) (λ p e. there 0 r p refl e) refl of.0) (λ slots. fields_has_line ds routes slots (λ i. there (suc i)) of.1)

pub each_mismatch_has_a_line : (W R : List Node) → IsWellFormed W → IsWellFormed R → PartnersAreApart → EachMismatchHasALine W R
each_mismatch_has_a_line W R writer_formed formed apart lines d is conforms = datum_has_line W R writer_formed formed apart lines (complete W R (Due roots ∷ []) [] lines is) d 0 0 root conforms
