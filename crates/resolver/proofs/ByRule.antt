-- Matching is the rule: items and values come later or are of named types, so the steps suffice.
use Rattle.std.proofs.Common.{◌≡◌, ℕ, zero, suc, ◌+◌, ◌≤◌, Bool, true, false, ◌||◌, List, [], ◌∷◌, length, Option, Some, None, refl, sym, ap, subst, ◌∙◌, inl, inr, slice_get, arith}
use Rattle.spec_avro.specs.Node.{Node, ArrayNode, MapNode}
use Rattle.spec_avro.specs.WellFormed.{HoldsItem, IsWellFormed, NodeIsWellFormed, is_named}
use Rattle.spec_avro.specs.Matching.{MatchesByRule, both_items, both_match, both_values, kinds_match, matches, matches_within, rule}
use Rattle.spec_avro.specs.Options.{given}

-- the item of an array or the value of a map
abbrev Holds : Node → ℕ → Type 0
Holds (ArrayNode item) i = item ≡ i
Holds (MapNode value) i = value ≡ i
Holds _ i = ⊥

items_held : (w r : Node) (p : ℕ × ℕ) → both_items (Some w) (Some r) ≡ Some p → Holds w p.0
items_held (ArrayNode i) (ArrayNode j) p e = cc
items_held w r p e = absurd cc

values_held : (w r : Node) (p : ℕ × ℕ) → both_values (Some w) (Some r) ≡ Some p → Holds w p.0
values_held (MapNode i) (MapNode j) p e = cc
values_held w r p e = absurd cc

held : (W : List Node) (own : ℕ) (k : Node) (i : ℕ) → NodeIsWellFormed W own k → Holds k i → HoldsItem W own i
held W own (ArrayNode j) i formed h = subst (HoldsItem W own) h formed
held W own (MapNode j) i formed h = subst (HoldsItem W own) h formed
held W own k i formed h = absurd h

has_no_name : (k : Node) (i : ℕ) → Holds k i → is_named (Some k) ≡ false
has_no_name (ArrayNode j) i h = refl
has_no_name (MapNode j) i h = refl
has_no_name k i h = absurd h

module _ (f g : ℕ → ℕ → Bool) where
  same_given : (o : Option (ℕ × ℕ)) → ((p : ℕ × ℕ) → o ≡ Some p → f p.0 p.1 ≡ g p.0 p.1) → given o false (λ p. f p.0 p.1) ≡ given o false (λ p. g p.0 p.1)
  same_given None h = refl
  same_given (Some p) h = h p refl

  same_rule : (w r : Node) → ((i j : ℕ) → Holds w i → f i j ≡ g i j) → rule f w r ≡ rule g w r
  same_rule w r h =
      ap (λ (x : Bool). kinds_match w r || x || given (both_values (Some w) (Some r)) false (λ p. f p.0 p.1)) (same_given (both_items (Some w) (Some r)) (λ p e. h p.0 p.1 (items_held w r p e)))
      ∙ ap (λ (x : Bool). kinds_match w r || given (both_items (Some w) (Some r)) false (λ p. g p.0 p.1) || x) (same_given (both_values (Some w) (Some r)) (λ p e. h p.0 p.1 (values_held w r p e)))

  same_both : (w r : Option Node) → ((k : Node) (i j : ℕ) → w ≡ Some k → Holds k i → f i j ≡ g i j) → both_match f w r ≡ both_match g w r
  same_both None r h = refl
  same_both (Some w) None h = refl
  same_both (Some w) (Some r) h = same_rule w r (λ i j e. h w i j refl e)

beyond : (xs : List Node) (i : ℕ) → length xs ≤ i → slice_get xs i ≡ None
beyond [] i le = refl
beyond (x ∷ xs) zero le = absurd (omega arith)
beyond (x ∷ xs) (suc i) le = beyond xs i (omega arith)

module _ (W R : List Node) (formed : IsWellFormed W) where
  -- more steps change nothing
  stable : (n w r : ℕ) → length W ≤ n + w → matches_within W R (suc n) w r ≡ matches_within W R (suc (suc n)) w r
  unfolding matches_within
  stable zero w r le = same_both (matches_within W R zero) (matches_within W R (suc zero)) (slice_get W w) (slice_get R r) (λ k i j e h. absurd (let clash : None ≡ Some k = sym (beyond W w (omega arith)) ∙ e in cc))
  stable (suc n) w r le = same_both (matches_within W R (suc n)) (matches_within W R (suc (suc n))) (slice_get W w) (slice_get R r) (λ k i j e h. elim (held W w k i (formed.each w k e) h).part [
    | inl lt ↦ stable n i j (omega arith)
    | inr named ↦ same_both (matches_within W R n) (matches_within W R (suc n)) (slice_get W i) (slice_get R j) (λ l x y at o. absurd (let clash : true ≡ false = sym named ∙ ap is_named at ∙ has_no_name l x o in cc))
  ])

  pub by_rule : (w r : ℕ) → matches W R w r ≡ both_match (matches W R) (slice_get W w) (slice_get R r)
  unfolding matches_within
  by_rule w r = stable (length W) w r (omega arith)

pub matches_by_rule : MatchesByRule
matches_by_rule W R w r formed = by_rule W R formed w r
