-- Pairs in the order in which they came, each once.
use Rattle.std.specs.Prelude.{◌≡◌, ℕ, ◌+◌, ◌*◌, ◌<◌, ◌==◌, ◌&&◌, ◌||◌, Bool, true, false, if◌then◌else◌, List, [], ◌∷◌, ◌++◌, length, map, slice_index_or}
use Rattle.std.specs.List.{AllByRecursion}
use Rattle.resolver.specs.NextPairs.{Among}
use Rattle.resolver.specs.Pairs.{AreWithin, marks}
use Rattle.spec_avro.specs.Safety.{Pair}
use Rattle.schema_check.specs.declared.pairs.NodePair.{NodePair}
use Rattle.schema_check.specs.declared.pairs.PairList.TheInside.{Inside}

-- ---- pairs with names for their nodes

abbrev pub pair_at : NodePair → Pair
pair_at n = (n.writer_node, n.reader_node)

abbrev pub pairs_at : List NodePair → List Pair
pairs_at ns = map pair_at ns

abbrev pub node_pair : Pair → NodePair
node_pair p = record { writer_node = p.0; reader_node = p.1 }

-- nodes of schemas with these numbers of nodes
abbrev pub AreBelow : ℕ → ℕ → List NodePair → Type 0
AreBelow writers readers ns = AllByRecursion (λ n. (n.writer_node < writers) × (n.reader_node < readers)) ns

-- ---- pairs that are listed

-- the pairs, and how many nodes either schema has
pub record Listed : Type 0 where
  pub pairs : List Pair
  pub writers : ℕ
  pub readers : ℕ

abbrev pub listed_of : Inside → Listed
listed_of s = record { pairs = s.pairs.items; writers = s.writers; readers = s.readers }

abbrev pub is_same_pair : Pair → Pair → Bool
is_same_pair p q = (p.0 == q.0) && (p.1 == q.1)

abbrev pub is_among : Pair → List Pair → Bool
is_among q [] = false
is_among q (p ∷ ps) = is_same_pair q p || is_among q ps

-- the pairs with one more as the last, unless it is among them
abbrev pub with_one : List Pair → Pair → List Pair
with_one ps q = if is_among q ps then ps else ps ++ q ∷ []

-- the pairs with each of these, one after another
abbrev pub with_all : List Pair → List Pair → List Pair
with_all ps [] = ps
with_all ps (q ∷ qs) = with_all (with_one ps q) qs

-- each pair is none of those that follow it
abbrev pub AreOnce : List Pair → Type 0
AreOnce [] = Unit {0}
AreOnce (p ∷ ps) = (Among p ps → ⊥) × AreOnce ps

-- a mark for each pair of nodes, set just for those that are listed
pub record AreMarked (s : Inside) : Type 0 where
  pub all : length s.seen.items ≡ s.writers * s.readers
  pub counted : marks s.seen.items ≡ length s.pairs.items
  pub within : AreWithin s.writers s.readers s.pairs.items
  pub marked : (p : Pair) → p.1 < s.readers → slice_index_or s.seen.items (p.0 * s.readers + p.1) false ≡ true
      → Among p s.pairs.items
  pub listed : AllByRecursion (λ p. slice_index_or s.seen.items (p.0 * s.readers + p.1) false ≡ true) s.pairs.items
