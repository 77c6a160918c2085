-- How a pair is reached: for each the first pair that leads to it, and a way from the roots.
use Rattle.std.specs.Prelude.{◌≡◌, ◌<◌, ℕ, List, [], ◌∷◌, ◌++◌, length, slice_index_or}
use Rattle.spec_avro.specs.Node.{Node}
use Rattle.spec_avro.specs.Safety.{LeadsTo, Pair}

-- the pair at a place
abbrev pub at_place : List Pair → ℕ → Pair
at_place pairs k = slice_index_or pairs k (0, 0)

-- the place of a pair's parent
abbrev pub parent_of : List ℕ → ℕ → ℕ
parent_of parents k = slice_index_or parents k 0

module _ (W R : List Node) where
  -- the parent of the pair at a place is the first pair that leads to it, and comes before it
  pub record HasParent (pairs : List Pair) (parents : List ℕ) (k : ℕ) : Type 0 where
    pub earlier : parent_of parents k < k
    pub leads : LeadsTo W R (at_place pairs (parent_of parents k)) (at_place pairs k)
    pub first : (j : ℕ) → j < parent_of parents k → LeadsTo W R (at_place pairs j) (at_place pairs k) → ⊥

  -- a parent for each pair but the roots, which are the first pair
  pub record AreParents (pairs : List Pair) (parents : List ℕ) : Type 0 where
    pub each : length parents ≡ length pairs
    pub top : at_place pairs 0 ≡ (0, 0)
    pub none : parent_of parents 0 ≡ 0
    pub lead : (k : ℕ) → 0 < k → k < length pairs → HasParent pairs parents k

  -- a way from the roots to a pair, by pairs that lead from one to the next
  pub data IsWay : List Pair → Pair → Type 0 where
    at_roots : IsWay ((0, 0) ∷ []) (0, 0)
    further : {ps : List Pair} {p q : Pair} → IsWay ps p → LeadsTo W R p q → IsWay (ps ++ q ∷ []) q

-- the way to a place by the parents
pub data IsByParents (pairs : List Pair) (parents : List ℕ) : ℕ → List Pair → Type 0 where
  of_roots : IsByParents pairs parents 0 (at_place pairs 0 ∷ [])
  onward : {k : ℕ} {ps : List Pair} → 0 < k → IsByParents pairs parents (parent_of parents k) ps
      → IsByParents pairs parents k (ps ++ at_place pairs k ∷ [])
