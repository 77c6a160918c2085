-- How many levels are enough: arrays, maps and unions hold later nodes, or nodes of named types.
use Rattle.std.proofs.Common.{◌≡◌, ℕ, zero, suc, ◌+◌, ◌<◌, ◌⊎◌, inl, inr, true, false, List, [], ◌∷◌, length, None, sym, ◌∙◌, arith}
use Rattle.std.specs.Prelude.{slice_get}
use Rattle.spec_avro.specs.Node.{Node}
use Rattle.spec_avro.specs.WellFormed.{IsPartOf, is_named}

module _ (W : List Node) where
  abbrev pub Enough : ℕ → ℕ → Type 0
  Enough n w = (length W < w + n) ⊎ ((is_named (slice_get W w) ≡ true) × (0 < n))

  pub enough_on : (n w m : ℕ) → Enough (suc n) w → w < length W → is_named (slice_get W w) ≡ false → m < length W → IsPartOf W w m → Enough n m
  enough_on n w m (inl e) lt unnamed below (inl later) = inl (omega (arith, e, later))
  enough_on n w m (inl e) lt unnamed below (inr named) = inr (named, omega (arith, e, lt))
  enough_on n w m (inr e) lt unnamed below part = absurd (let two : true ≡ false = sym e.0 ∙ unnamed in cc)

  pub is_there : (w : ℕ) → w < length W → slice_get W w ≡ None → ⊥
  is_there w lt e = there W w lt e
    where
      there : (xs : List Node) (i : ℕ) → i < length xs → slice_get xs i ≡ None → ⊥
      there [] i lt e = omega (arith, lt)
      there (x ∷ xs) zero lt e = cc
      there (x ∷ xs) (suc i) lt e = there xs i (omega (arith, lt)) e

  pub not_none : (w : ℕ) → w < length W → Enough 0 w → ⊥
  not_none w lt (inl e) = omega (arith, lt, e)
  not_none w lt (inr e) = let z = e.1 in omega (arith, z)

  pub enough : (w : ℕ) → Enough (suc (length W)) w
  enough w = inl (omega arith)
