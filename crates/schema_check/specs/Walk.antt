-- The order in which pairs are reached first, from the roots on.
use Rattle.std.specs.Prelude.{◌≡◌, ℕ, suc, List, [], ◌∷◌, length, Some, slice_get}
use Rattle.spec_avro.specs.Node.{Node}
use Rattle.resolver.specs.NextPairs.{next_pairs}
use Rattle.spec_avro.specs.Safety.{Pair}
use Rattle.schema_check.specs.Pairs.{with_all}

module _ (W R : List Node) where
  -- From the roots on, one pair after another has its turn: what it leads to is added as the last, unless it is among
  -- the pairs. The number says how many pairs have had their turn.
  pub data IsWalk : ℕ → List Pair → Type 0 where
    begun : IsWalk 0 ((0, 0) ∷ [])
    turn : {i : ℕ} {ps : List Pair} {p : Pair} → IsWalk i ps → slice_get ps i ≡ Some p
        → IsWalk (suc i) (with_all ps (next_pairs W R p))

  -- all that is reached, in the order in which it is reached first: each pair has had its turn
  abbrev pub AreInOrder : List Pair → Type 0
  AreInOrder ps = IsWalk (length ps) ps
