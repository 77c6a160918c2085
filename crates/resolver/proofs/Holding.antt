-- What is computed as matching is true exactly where the relation holds.
use Rattle.std.proofs.Common.{◌≡◌, ℕ, zero, suc, ◌==◌, Bool, true, false, ◌||◌, ◌&&◌, List, [], ◌∷◌, length, Option, Some, refl, ap, ◌∙◌, inl, inr, ◌⊎◌, slice_get, arith}
use Rattle.std.specs.Str.{bytes_eq}
use Rattle.std.proofs.lemmas.Bool.Decides.{nat_tests}
use Rattle.std.proofs.lemmas.Slice.Eq.{bytes_eq-Decides}
use Rattle.spec_avro.specs.FullNames.{unqualified}
use Rattle.spec_avro.specs.Node.{Node, Names, NullNode, BooleanNode, IntNode, LongNode, BytesNode, TextNode, FixedNode, EnumNode, ArrayNode, MapNode, UnionNode, RecordNode}
use Rattle.spec_avro.specs.Symbols.{is_used}
use Rattle.spec_avro.specs.WellFormed.{IsWellFormed, is_union}
use Rattle.spec_avro.specs.Matches.{IsPrimitive, Matches, MatchesWhereItHolds, NamesMatch, alias, arrays, bytes_to_string, enums, fixed, int_to_long, maps, primitive, readers_union, records, string_to_bytes, unqualified_names, writers_union}
use Rattle.spec_avro.specs.Matching.{both_match, have_matching_names, kinds_match, matches, matches_within, names_match, primitives_match, rule}
use Rattle.resolver.proofs.ByRule.{by_rule}
use Rattle.resolver.specs.Laws.Plain.{either}
use Rattle.avro_bytes.specs.Laws.Plain.{both}
use Rattle.std.proofs.lemmas.Bool.{or_left, or_right}

or_false : (b : Bool) → (b || false) ≡ true → b ≡ true
or_false true e = refl
or_false false e = e

and_true : (a b : Bool) → a ≡ true → b ≡ true → (a && b) ≡ true
and_true true b e f = f
and_true false b e f = absurd cc

-- ---- names

one_used : (text : List ℕ) (texts : List (List ℕ)) → is_used text texts ≡ true → (i : ℕ) × (slice_get texts i ≡ Some text)
one_used text [] e = absurd cc
one_used text (s ∷ texts) e = elim (either (bytes_eq s text) (is_used text texts) e) [
  | inl same ↦ (0, ap Some ((bytes_eq-Decides s text).0 same))
  | inr later ↦ (let f = one_used text texts later in (suc f.0, f.1))
]

pub used_there : (text : List ℕ) (texts : List (List ℕ)) (i : ℕ) → slice_get texts i ≡ Some text → is_used text texts ≡ true
used_there text [] i e = absurd cc
used_there text (s ∷ texts) zero e = or_left (bytes_eq s text) (is_used text texts) ((bytes_eq-Decides s text).1 (let same : s ≡ text = cc in same))
used_there text (s ∷ texts) (suc i) e = or_right (bytes_eq s text) (is_used text texts) (used_there text texts i e)

names_told : (w r : Names) → have_matching_names w r ≡ true → NamesMatch w r
names_told w r e = elim (either (bytes_eq (unqualified w.full) (unqualified r.full)) (is_used w.full r.aliases) e) [
  | inl same ↦ unqualified_names ((bytes_eq-Decides (unqualified w.full) (unqualified r.full)).0 same)
  | inr used ↦ (let f = one_used w.full r.aliases used in alias f.0 f.1)
]

names_there : (w r : Names) → NamesMatch w r → have_matching_names w r ≡ true
names_there w r (unqualified_names e) = or_left (bytes_eq (unqualified w.full) (unqualified r.full)) (is_used w.full r.aliases) ((bytes_eq-Decides (unqualified w.full) (unqualified r.full)).1 e)
names_there w r (alias i at) = or_right (bytes_eq (unqualified w.full) (unqualified r.full)) (is_used w.full r.aliases) (used_there w.full r.aliases i at)

module _ (W R : List Node) where
  -- ---- what is true holds

  module _ (go : ℕ → ℕ → Bool) (deeper : (i j : ℕ) → go i j ≡ true → Matches W R i j) (w r : ℕ) where
    of_size : (n m : Names) (size most : ℕ) → slice_get W w ≡ Some (FixedNode n size) → slice_get R r ≡ Some (FixedNode m most) → (have_matching_names n m && size == most) ≡ true → Matches W R w r
    of_size n m size most at there h =
        let b = both (have_matching_names n m) (size == most) h in
        let same : most ≡ size = grind (arith, nat_tests, b.1) in
        fixed n m size at (there ∙ ap (λ (x : ℕ). Some (FixedNode m x)) same) (names_told n m b.0)

    told : (k l : Node) → slice_get W w ≡ Some k → slice_get R r ≡ Some l → rule go k l ≡ true → Matches W R w r
    told (UnionNode ms) l at there h = writers_union ms l at there
    told k (UnionNode ms) at there h = readers_union k ms at there
    told NullNode NullNode at there h = primitive NullNode tt at there
    told BooleanNode BooleanNode at there h = primitive BooleanNode tt at there
    told IntNode IntNode at there h = primitive IntNode tt at there
    told IntNode LongNode at there h = int_to_long at there
    told LongNode LongNode at there h = primitive LongNode tt at there
    told BytesNode BytesNode at there h = primitive BytesNode tt at there
    told BytesNode TextNode at there h = bytes_to_string at there
    told TextNode TextNode at there h = primitive TextNode tt at there
    told TextNode BytesNode at there h = string_to_bytes at there
    told (FixedNode n size) (FixedNode m most) at there h = of_size n m size most at there (or_false _ (or_false _ h))
    told (EnumNode n symbols default) (EnumNode m theirs fallback) at there h = enums n m symbols theirs default fallback at there (names_told n m (or_false _ (or_false _ h)))
    told (ArrayNode i) (ArrayNode j) at there h = arrays i j at there (deeper i j (or_false _ h))
    told (MapNode i) (MapNode j) at there h = maps i j at there (deeper i j h)
    told (RecordNode n fields) (RecordNode m theirs) at there h = records n m fields theirs at there (names_told n m (or_false _ (or_false _ h)))
    told k l at there h = absurd cc

    told_both : (k l : Option Node) → slice_get W w ≡ k → slice_get R r ≡ l → both_match go k l ≡ true → Matches W R w r
    told_both (Some k) (Some l) at there h = told k l at there h
    told_both k l at there h = absurd cc

  within_holds : (n w r : ℕ) → matches_within W R n w r ≡ true → Matches W R w r
  unfolding matches_within
  within_holds zero w r h = absurd cc
  within_holds (suc n) w r h = told_both (matches_within W R n) (λ i j e. within_holds n i j e) w r (slice_get W w) (slice_get R r) refl refl h

  -- ---- what holds is true

  module _ (formed : IsWellFormed W) where
    at_rule : (w r : ℕ) (k l : Node) → slice_get W w ≡ Some k → slice_get R r ≡ Some l → rule (matches W R) k l ≡ true → matches W R w r ≡ true
    at_rule w r k l at there h = by_rule W R formed w r ∙ ap (λ (o : Option Node). both_match (matches W R) o (slice_get R r)) at ∙ ap (λ (o : Option Node). both_match (matches W R) (Some k) o) there ∙ h

    by_kind : (k l : Node) → kinds_match k l ≡ true → rule (matches W R) k l ≡ true
    by_kind k l e = or_left (kinds_match k l || _) _ (or_left (kinds_match k l) _ e)

    same_primitive : (k : Node) → IsPrimitive k → kinds_match k k ≡ true
    same_primitive NullNode p = refl
    same_primitive BooleanNode p = refl
    same_primitive IntNode p = refl
    same_primitive LongNode p = refl
    same_primitive BytesNode p = refl
    same_primitive TextNode p = refl
    same_primitive k p = absurd p

    readers : (k : Node) (ms : List ℕ) → kinds_match k (UnionNode ms) ≡ true
    readers k ms = or_left _ (names_match k (UnionNode ms)) (or_left _ (primitives_match k (UnionNode ms)) (or_right (is_union (Some k)) true refl))

    same_number : (n : ℕ) → (n == n) ≡ true
    same_number n = grind (arith, nat_tests)

    pub holds_true : (w r : ℕ) → Matches W R w r → matches W R w r ≡ true
    holds_true w r (arrays i j at there m) = at_rule w r (ArrayNode i) (ArrayNode j) at there (or_left (matches W R i j) false (holds_true i j m))
    holds_true w r (maps i j at there m) = at_rule w r (MapNode i) (MapNode j) at there (holds_true i j m)
    holds_true w r (enums n m symbols theirs default fallback at there names) = at_rule w r (EnumNode n symbols default) (EnumNode m theirs fallback) at there (by_kind (EnumNode n symbols default) (EnumNode m theirs fallback) (names_there n m names))
    holds_true w r (fixed n m size at there names) = at_rule w r (FixedNode n size) (FixedNode m size) at there (by_kind (FixedNode n size) (FixedNode m size) (and_true (have_matching_names n m) (size == size) (names_there n m names) (same_number size)))
    holds_true w r (records n m fields theirs at there names) = at_rule w r (RecordNode n fields) (RecordNode m theirs) at there (by_kind (RecordNode n fields) (RecordNode m theirs) (names_there n m names))
    holds_true w r (writers_union ms l at there) = at_rule w r (UnionNode ms) l at there (by_kind (UnionNode ms) l refl)
    holds_true w r (readers_union k ms at there) = at_rule w r k (UnionNode ms) at there (by_kind k (UnionNode ms) (readers k ms))
    holds_true w r (primitive k p at there) = at_rule w r k k at there (by_kind k k (same_primitive k p))
    holds_true w r (int_to_long at there) = at_rule w r IntNode LongNode at there refl
    holds_true w r (string_to_bytes at there) = at_rule w r TextNode BytesNode at there refl
    holds_true w r (bytes_to_string at there) = at_rule w r BytesNode TextNode at there refl

pub matches_where_it_holds : MatchesWhereItHolds
matches_where_it_holds W R w r formed = (λ e. within_holds W R (suc (length W)) w r e, λ m. holds_true W R formed w r m)
