-- Which pairs are reached and bad, by which kind, in the order in which they are reached first.
use Rattle.std.specs.Prelude.{◌≡◌, ◌↔◌, ◌<◌, ℕ, suc, List, [], ◌∷◌, ◌++◌, length, Option, Some, None, slice_get}
use Rattle.std.specs.List.{AllByRecursion}
use Rattle.spec_avro.specs.Node.{Node}
use Rattle.spec_avro.specs.declared.mismatch.MismatchKind.{MismatchKind}
use Rattle.spec_avro.specs.Safety.{IsSafe, Pair, Reached}
use Rattle.schema_check.specs.BadKinds.{IsBadBy, kind_of}
use Rattle.schema_check.specs.Pairs.{AreBelow, AreOnce, pairs_at}
use Rattle.schema_check.specs.Walk.{AreInOrder}
use Rattle.schema_check.specs.Ways.{AreParents}
use Rattle.schema_check.specs.declared.checking.BadPair.{BadPair}
use Rattle.schema_check.specs.declared.checking.Check.{Check}

-- a pair with its place among those that are reached, and the kind by which it is bad
abbrev pub bad_pair : MismatchKind → ℕ → Pair → BadPair
bad_pair kind place p = record { kind = kind; writer_node = p.0; reader_node = p.1; place = place }

abbrev pub pair_of : BadPair → Pair
pair_of b = (b.writer_node, b.reader_node)

abbrev pub pairs_of : List BadPair → List Pair
pairs_of [] = []
pairs_of (b ∷ bs) = pair_of b ∷ pairs_of bs

-- what is listed of a pair: nothing where it is bad by no kind
abbrev pub entry : Option MismatchKind → ℕ → Pair → List BadPair
entry None place p = []
entry (Some kind) place p = bad_pair kind place p ∷ []

module _ (W R : List Node) where
  -- the bad ones among these, in their order, where the first of these is at that place
  abbrev pub bad_among : ℕ → List Pair → List BadPair
  bad_among place [] = []
  bad_among place (p ∷ ps) = entry (kind_of W R p) place p ++ bad_among (suc place) ps

  -- a bad pair is reached, bad by its kind, and at its place among the pairs
  pub record IsBadThere (pairs : List Pair) (b : BadPair) : Type 0 where
    pub reached : Reached W R (pair_of b)
    pub bad : IsBadBy W R b.kind (pair_of b)
    pub there : slice_get pairs b.place ≡ Some (pair_of b)

  -- one of the bad pairs is this one, by this kind
  pub record IsListed (bad : List BadPair) (kind : MismatchKind) (p : Pair) : Type 0 where
    pub i : ℕ
    pub b : BadPair
    pub at : slice_get bad i ≡ Some b
    pub kind_is : b.kind ≡ kind
    pub pair_is : pair_of b ≡ p

  -- these are the pairs that are reached, and these the bad ones of them
  pub record AreBadPairs (pairs : List Pair) (bad : List BadPair) : Type 0 where
    -- there is none just where no bad pair is reached
    pub safe : (bad ≡ []) ↔ IsSafe W R
    -- each that is listed is reached and bad
    pub only : AllByRecursion (IsBadThere pairs) bad
    -- each that is reached and bad is listed
    pub all : (kind : MismatchKind) (p : Pair) → Reached W R p → IsBadBy W R kind p → IsListed bad kind p
    -- and just once
    pub once : AreOnce (pairs_of bad)
    -- in the order in which pairs are reached first
    pub in_order : AreInOrder W R pairs
    pub among : bad ≡ bad_among 0 pairs

  -- what is found of two schemas
  pub record AreFound (pairs : List Pair) (parents : List ℕ) (bad : List BadPair) : Type 0 where
    pub bad_pairs : AreBadPairs pairs bad
    pub with_parents : AreParents W R pairs parents

  -- and each node is one of its schema
  pub record IsCheck (c : Check) : Type 0 where
    pub found : AreFound (pairs_at c.pairs.items) c.parents.items c.bad.items
    pub below : AreBelow (length W) (length R) c.pairs.items

-- what a caller may look up of each bad pair: its nodes in schemas with these numbers of nodes, its place among pairs
abbrev pub AreWithin : ℕ → ℕ → ℕ → List BadPair → Type 0
AreWithin writers readers pairs bad =
    AllByRecursion (λ b. (b.writer_node < writers) × (b.reader_node < readers) × (b.place < pairs)) bad
