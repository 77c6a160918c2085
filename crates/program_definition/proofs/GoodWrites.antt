-- The statements of X are good.
use Rattle.std.proofs.Common.{◌≡◌, ℕ, zero, suc, ◌<◌, Bool, true, false, cond, List, [], ◌∷◌, length, map, Option, Some, None, IfSome, ℤ, refl, sym, ap, ◌∙◌, subst, arith}
use Rattle.std.specs.Prelude.{◌+◌, ◌/◌, ◌%◌, pos, slice_get, nat_lt}
use Rattle.std.specs.List.{AllByRecursion}
use Rattle.spec_avro.specs.Number.{zigzag}
use Rattle.spec_avro.specs.Shortest.{shortest, shortest_groups}
use Rattle.avro_types.specs.Laws.Placed.{place-within}
use Rattle.spec_avro.specs.Node.{Node, FieldNode, NullNode, BooleanNode, IntNode, LongNode, BytesNode, TextNode, FixedNode, EnumNode, ArrayNode, MapNode, UnionNode, RecordNode}
use Rattle.spec_avro.specs.Symbols.{place_of}
use Rattle.spec_avro.specs.WellFormed.{FieldsBelow, IsMember, IsPartOf, IsWellFormed, is_named, is_union}
use Rattle.spec_avro.specs.declared.mismatch.MismatchKind.{MismatchKind}
use Rattle.spec_avro.specs.declared.mismatch.MismatchKind.TheVariants as kinds
use Rattle.resolver.proofs.Fitting.{is_a_union, node_fits}
use Rattle.resolver.proofs.Members.{found, member_in, never_else, no_union_at}
use Rattle.spec_avro.specs.declared.place.Route.{Route}
use Rattle.spec_avro.specs.declared.place.Destination.{Destination}
use Rattle.spec_avro.specs.declared.place.Destination.TheVariants.{Straight, IntoMember, Nowhere, Unmatched}
use Rattle.spec_avro.specs.Matching.{first_member, matches, place, place_at}
use Rattle.spec_avro.specs.Options.{given, or_else}
use Rattle.spec_avro.specs.Partners.{routes}
use Rattle.spec_avro.specs.Resolution.{field_lists, lacking, lacking_from, lacks, symbol_for}
use Rattle.spec_machine.specs.declared.instr.Instr.TheVariants as op
use Rattle.spec_machine.specs.declared.limits.TheConstants.{MOST_SYMBOLS}
use Rattle.spec_machine.specs.Range.{MissIsInRange}
use Rattle.spec_machine.specs.Statements.{Statement, Op, BytesText, Lacks, To, miss}
use Rattle.spec_machine.specs.Writing.{X, is_text, placed_node, record_code, straight_node, target, write_node, write_within}
use Rattle.program_definition.proofs.Good.{AllGood, TargetIsGood, good_branched, good_loop}
use Rattle.program_definition.proofs.GoodSkips.{good_K}
use Rattle.program_definition.proofs.Levels.{Enough, enough, enough_on, is_there, not_none}

some_groups : (left n : ℕ) → 0 < length (shortest_groups (suc left) n)
unfolding shortest_groups
some_groups left n = by_test (nat_lt n 128)
  where
    by_test : (b : Bool) → 0 < length (cond b (n ∷ []) ((n % 128 + 128) ∷ shortest_groups left (n / 128)))
    by_test true = omega arith
    by_test false = omega arith

pub some_shortest : (n : ℤ) → 0 < length (shortest n)
unfolding shortest
some_shortest n = some_groups 9 (zigzag n)

module _ (W R : List Node) (formed : IsWellFormed W) (theirs : IsWellFormed R) where
  abbrev Good : List Statement → Type 0
  Good ls = AllGood W R 1 ls

  miss_near : (kind : MismatchKind) (w r : ℕ) → w < length W → r < length R → MissIsInRange (miss kind w r)
  miss_near kind w r lt below = record { writer = omega (arith, lt, formed.few); reader = omega (arith, below, theirs.few) }

  -- ---- the position of a symbol

  in_symbols : (symbols : List (List ℕ)) (default : Option ℕ) (symbol : List ℕ) (o : Option ℕ) → place_of symbol symbols ≡ o → IfSome default (λ n. n < length symbols) → (n : ℕ) → or_else o default ≡ Some n → n < length symbols
  in_symbols symbols default symbol (Some k) is within n e = let same : k ≡ n = cc in subst (λ i. i < length symbols) same (place-within symbol symbols k is)
  in_symbols symbols (Some k) symbol None is within n e = let same : k ≡ n = cc in subst (λ i. i < length symbols) same within
  in_symbols symbols None symbol None is within n e = absurd cc

  symbol_below : (r : ℕ) (x : Option Node) → slice_get R r ≡ x → (symbol : List ℕ) (n : ℕ) → symbol_for x symbol ≡ Some n → n < MOST_SYMBOLS
  symbol_below r (Some (EnumNode names symbols default)) at symbol n e =
      let is = theirs.each r (EnumNode names symbols default) at in
      let lt = in_symbols symbols default symbol (place_of symbol symbols) refl is.2 n e in
      omega (arith, lt, is.1)
  symbol_below r _ at symbol n e = absurd cc

  good_target : (w r : ℕ) → w < length W → r < length R → (symbol : List ℕ) → TargetIsGood (target w r (slice_get R r) symbol)
  good_target w r lt below symbol = by_symbol (symbol_for (slice_get R r) symbol) refl
    where
      by_symbol : (o : Option ℕ) → symbol_for (slice_get R r) symbol ≡ o → TargetIsGood (given o (Lacks (miss kinds.NoSymbol w r)) To)
      by_symbol None e = miss_near kinds.NoSymbol w r lt below
      by_symbol (Some n) e = symbol_below r (slice_get R r) refl symbol n e

  good_targets : (w r : ℕ) → w < length W → r < length R → (symbols : List (List ℕ)) → AllByRecursion TargetIsGood (map (target w r (slice_get R r)) symbols)
  good_targets w r lt below [] = tt
  good_targets w r lt below (symbol ∷ symbols) = (good_target w r lt below symbol, good_targets w r lt below symbols)

  -- ---- what the place of a pair says

  abbrev PlaceIs : ℕ → ℕ → Destination → Type 0
  PlaceIs w r Straight = (is_union (slice_get R r) ≡ false) × (matches W R w r ≡ true)
  PlaceIs w r (IntoMember j m) = (m < length R) × (is_union (slice_get R m) ≡ false) × (matches W R w m ≡ true)
  PlaceIs w r Nowhere = Unit {0}
  PlaceIs w r Unmatched = Unit {0}

  place_is : (w r : ℕ) (p : Destination) → place W R w r ≡ p → PlaceIs w r p
  place_is w r p e = go (is_union (slice_get R r)) refl p e
    where
      straight : (b : Bool) → matches W R w r ≡ b → is_union (slice_get R r) ≡ false → (p : Destination) → cond b Straight Unmatched ≡ p → PlaceIs w r p
      straight true is no_union Straight e = (no_union, is)
      straight true is no_union (IntoMember j m) e = absurd cc
      straight true is no_union Nowhere e = absurd cc
      straight true is no_union Unmatched e = absurd cc
      straight false is no_union Straight e = absurd cc
      straight false is no_union (IntoMember j m) e = absurd cc
      straight false is no_union Nowhere e = absurd cc
      straight false is no_union Unmatched e = tt

      member : (ms : List ℕ) → slice_get R r ≡ Some (UnionNode ms) → (p : Destination) → first_member (matches W R w) 0 ms ≡ p → PlaceIs w r p
      member ms at Straight e = absurd (never_else (matches W R w) 0 ms Straight e refl)
      member ms at (IntoMember j m) e =
          let f = found (matches W R w) 0 ms j m e in
          let is = member_in (IsMember R r) ms f.steps m (theirs.each r (UnionNode ms) at).0 f.member in
          (is.below, is.no_union, f.matching)
      member ms at Nowhere e = tt
      member ms at Unmatched e = tt

      go : (b : Bool) → is_union (slice_get R r) ≡ b → (p : Destination) → place W R w r ≡ p → PlaceIs w r p
      go true is p e = let u = is_a_union (slice_get R r) is in member u.0 u.1 p (sym (ap (λ (o : Option Node). place_at (matches W R w) o r) u.1) ∙ e)
      go false is p e = straight (matches W R w r) refl is p (sym (no_union_at (matches W R w) (slice_get R r) r is) ∙ e)

  -- ---- nodes

  lacking_below : (all : List Route) (j : ℕ) (gs : List FieldNode) (g : FieldNode) → FieldsBelow (length R) gs → lacking_from all j gs ≡ Some g → g.node < length R
  lacking_below all j [] g below e = absurd cc
  lacking_below all j (f ∷ gs) g below e = by_test (lacks all j f) (lacking_below all (suc j) gs g below.1) e
    where
      by_test : (b : Bool) → (lacking_from all (suc j) gs ≡ Some g → g.node < length R) → cond b (Some f) (lacking_from all (suc j) gs) ≡ Some g → g.node < length R
      by_test true rest e = let same : f ≡ g = cc in subst (λ (k : FieldNode). k.node < length R) same below.0
      by_test false rest e = rest e

  good_record : (w r : ℕ) → w < length W → (p : List FieldNode × List FieldNode) → FieldsBelow (length R) p.1 → field_lists (slice_get W w) (slice_get R r) ≡ Some p → (o : Option FieldNode) → lacking p.0 p.1 ≡ o → Good (record_code W R w r o)
  good_record w r lt p below are None e = ((p, are), tt)
  good_record w r lt p below are (Some g) e = (miss_near kinds.NoDefault w g.node lt (lacking_below (routes p.0 p.1) 0 p.1 g below e), good_K W R formed w lt)

  good_bytes : (w r : ℕ) → w < length W → r < length R → (b : Bool) → Good (cond b (BytesText (miss kinds.BytesNotText w r)) (Op op.Bytes) ∷ [])
  good_bytes w r lt below true = (miss_near kinds.BytesNotText w r lt below, tt)
  good_bytes w r lt below false = (λ sizes. tt, tt)

  module _ (F : ℕ → ℕ → List Statement) (w : ℕ) (lt : w < length W) (inner : is_named (slice_get W w) ≡ false → (m r : ℕ) → m < length W → r < length R → IsPartOf W w m → Good (F m r)) where
    straight_good : (r : ℕ) → r < length R → is_union (slice_get R r) ≡ false → matches W R w r ≡ true → (x : Option Node) → slice_get W w ≡ x → is_union x ≡ false → Good (straight_node W R F w r x (slice_get R r))
    straight_good r below apart match None e plain = absurd (is_there W w lt e)
    straight_good r below apart match (Some NullNode) e plain = tt
    straight_good r below apart match (Some BooleanNode) e plain = (λ sizes. tt, tt)
    straight_good r below apart match (Some IntNode) e plain = (λ sizes. tt, tt)
    straight_good r below apart match (Some LongNode) e plain = (λ sizes. tt, tt)
    straight_good r below apart match (Some BytesNode) e plain = good_bytes w r lt below (is_text (slice_get R r))
    straight_good r below apart match (Some TextNode) e plain = (λ sizes. tt, tt)
    straight_good r below apart match (Some (FixedNode names size)) e plain = (λ sizes. formed.each w (FixedNode names size) e, tt)
    straight_good r below apart match (Some (EnumNode names symbols default)) e plain = (good_targets w r lt below symbols, tt)
    straight_good r below apart match (Some (ArrayNode item)) e plain =
        let fits = node_fits W R w r (ArrayNode item) e match apart in
        let held = formed.each w (ArrayNode item) e in
        subst (λ n. Good (straight_node W R F w r (Some (ArrayNode item)) n)) (sym fits.1)
        (λ sizes. tt, good_loop W R op.Next (F item fits.0) (λ sizes a lt. lt) (inner (ap is_named e) item fits.0 held.below (theirs.each r (ArrayNode fits.0) fits.1).below held.part))
    straight_good r below apart match (Some (MapNode value)) e plain =
        let fits = node_fits W R w r (MapNode value) e match apart in
        let held = formed.each w (MapNode value) e in
        subst (λ n. Good (straight_node W R F w r (Some (MapNode value)) n)) (sym fits.1)
        (λ sizes. tt, good_loop W R op.Next (Op op.Text ∷ F value fits.0) (λ sizes a lt. lt) (λ sizes. tt, inner (ap is_named e) value fits.0 held.below (theirs.each r (MapNode fits.0) fits.1).below held.part))
    straight_good r below apart match (Some (RecordNode names fs)) e plain =
        let fits = node_fits W R w r (RecordNode names fs) e match apart in
        let are : field_lists (slice_get W w) (slice_get R r) ≡ Some (fs, fits.1) = ap (λ n. field_lists n (slice_get R r)) e ∙ ap (field_lists (Some (RecordNode names fs))) fits.2 in
        subst (λ n. Good (straight_node W R F w r (Some (RecordNode names fs)) n)) (sym fits.2)
        (good_record w r lt (fs, fits.1) (theirs.each r (RecordNode fits.0 fits.1) fits.2).0 are (lacking fs fits.1) refl)
    straight_good r below apart match (Some (UnionNode members)) e plain = absurd cc

    placed_good : (r : ℕ) → r < length R → is_union (slice_get W w) ≡ false → (p : Destination) → place W R w r ≡ p → Good (placed_node W R F w r p)
    placed_good r below plain Straight e = let is = place_is w r Straight e in straight_good r below is.0 is.1 (slice_get W w) refl plain
    placed_good r below plain (IntoMember j m) e = let is = place_is w r (IntoMember j m) e in (some_shortest (pos j), straight_good m is.0 is.1 is.2 (slice_get W w) refl plain)
    placed_good r below plain Nowhere e = (miss_near kinds.NoBranch w r lt below, good_K W R formed w lt)
    placed_good r below plain Unmatched e = (miss_near kinds.NoMatch w r lt below, good_K W R formed w lt)

    node_good : (r : ℕ) → r < length R → (x : Option Node) → slice_get W w ≡ x → Good (write_node W R F w r x)
    node_good r below (Some (UnionNode members)) e = good_branched W R (λ m. F m r) (IsMember W w) members (formed.each w (UnionNode members) e).0 (λ m is. inner (ap is_named e) m r is.below below is.part)
    node_good r below None e = absurd (is_there W w lt e)
    node_good r below (Some NullNode) e = placed_good r below (ap is_union e) (place W R w r) refl
    node_good r below (Some BooleanNode) e = placed_good r below (ap is_union e) (place W R w r) refl
    node_good r below (Some IntNode) e = placed_good r below (ap is_union e) (place W R w r) refl
    node_good r below (Some LongNode) e = placed_good r below (ap is_union e) (place W R w r) refl
    node_good r below (Some BytesNode) e = placed_good r below (ap is_union e) (place W R w r) refl
    node_good r below (Some TextNode) e = placed_good r below (ap is_union e) (place W R w r) refl
    node_good r below (Some (FixedNode names size)) e = placed_good r below (ap is_union e) (place W R w r) refl
    node_good r below (Some (EnumNode names symbols default)) e = placed_good r below (ap is_union e) (place W R w r) refl
    node_good r below (Some (ArrayNode item)) e = placed_good r below (ap is_union e) (place W R w r) refl
    node_good r below (Some (MapNode value)) e = placed_good r below (ap is_union e) (place W R w r) refl
    node_good r below (Some (RecordNode names fs)) e = placed_good r below (ap is_union e) (place W R w r) refl

  good_within : (n w r : ℕ) → w < length W → r < length R → Enough W n w → Good (write_within W R n w r)
  unfolding write_within
  good_within zero w r lt below levels = absurd (not_none W w lt levels)
  good_within (suc n) w r lt below levels = node_good (write_within W R n) w lt (λ unnamed m s mine other part. good_within n m s mine other (enough_on W n w m levels lt unnamed mine part)) r below (slice_get W w) refl

  pub good_X : (w r : ℕ) → w < length W → r < length R → Good (X W R w r)
  good_X w r lt below = good_within (suc (length W)) w r lt below (enough W w)
