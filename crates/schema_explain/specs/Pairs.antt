-- Pairs in the order in which they came, each once.
use Rattle.std.specs.Prelude.{◌≡◌, ℕ, ◌+◌, ◌*◌, ◌<◌, ◌==◌, ◌&&◌, ◌||◌, Bool, false, if◌then◌else◌, List, [], ◌∷◌, ◌++◌, length, slice_index_or}
use Rattle.resolver.specs.Pairs.{marks}
use Rattle.spec_avro.specs.Safety.{Pair}
use Rattle.schema_explain.specs.declared.pairs.PairList.TheInside.{Inside}

-- the pairs, and how many nodes either schema has
pub record Listed : Type 0 where
  pub pairs : List Pair
  pub writers : ℕ
  pub readers : ℕ

abbrev pub listed_of : Inside → Listed
listed_of s = record { pairs = s.pairs.items; writers = s.writers; readers = s.readers }

abbrev pub is_same_pair : Pair → Pair → Bool
is_same_pair p q = (p.0 == q.0) && (p.1 == q.1)

abbrev pub is_among : Pair → List Pair → Bool
is_among q [] = false
is_among q (p ∷ ps) = is_same_pair q p || is_among q ps

-- the pairs with one more as the last, unless it is among them
abbrev pub with_one : List Pair → Pair → List Pair
with_one ps q = if is_among q ps then ps else ps ++ q ∷ []

-- a mark for each pair of nodes, set just for those that are listed
pub record AreMarked (s : Inside) : Type 0 where
  pub all : length s.seen.items ≡ s.writers * s.readers
  pub counted : marks s.seen.items ≡ length s.pairs.items
  pub marked : (p : Pair) → p.1 < s.readers
      → slice_index_or s.seen.items (p.0 * s.readers + p.1) false ≡ is_among p s.pairs.items
