-- A pair is less deep than the pairs that it is one of.
use Rattle.std.proofs.Common.{◌≡◌, ℕ, ◌+◌, ◌*◌, ◌<◌, ◌≤◌, List, [], ◌∷◌, ◌++◌, sym, ap, ◌∙◌, arith, append_assoc}
use denote.Param.Weighed.{most}

module _ {X : Type 0} where
  -- what is left of a list
  pub record IsLeft (left all : List X) : Type 0 where
    pub front : List X
    pub whole : all ≡ front ++ left

  pub at_first : (all left : List X) → left ≡ all → IsLeft left all
  at_first all left e = record { front = []; whole = sym e }

  pub one_on : (left all : List X) (x : X) (rest : List X) → IsLeft left all → left ≡ x ∷ rest → IsLeft rest all
  one_on left all x rest h e = record { front = h.front ++ x ∷ []; whole = h.whole ∙ ap (λ (l : List X). h.front ++ l) e ∙ sym (append_assoc h.front (x ∷ []) rest) }

  one_of : (f : X → ℕ) (front : List X) (x : X) (rest : List X) → f x ≤ most f (front ++ x ∷ rest)
  one_of f [] x rest = omega arith
  one_of f (y ∷ front) x rest = omega (arith, one_of f front x rest)

  pub falls : (f : X → ℕ) (t : ℕ) (all left : List X) (x : X) (rest : List X) → 8 * most f all + 4 ≡ t → IsLeft left all → left ≡ x ∷ rest → 8 * f x + 3 < t
  falls f t all left x rest is h e =
      let below : f x ≤ most f all = rw (h.whole, e) (one_of f h.front x rest) in
      omega (arith, below, is)
