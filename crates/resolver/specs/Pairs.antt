-- Pairs in the order in which they came, each once.
use Rattle.std.specs.Prelude.{◌≡◌, ℕ, ◌+◌, ◌*◌, ◌<◌, suc, Bool, true, false, List, [], ◌∷◌, ◌++◌, length, slice_index_or, ◌⊎◌}
use Rattle.std.specs.List.{AllByRecursion}
use Rattle.resolver.specs.NextPairs.{Among}
use Rattle.spec_avro.specs.Safety.{Pair}
use Rattle.resolver.specs.declared.pairs.PairList.TheInside.{Inside}

-- the pairs, and how many nodes either schema has
pub record Listed : Type 0 where
  pub pairs : List Pair
  pub writers : ℕ
  pub readers : ℕ

abbrev pub listed_of : Inside → Listed
listed_of s = record { pairs = s.pairs.items; writers = s.writers; readers = s.readers }

-- the pair was there, or comes after the others
pub record Adds (p : Pair) (old new : Listed) : Type 0 where
  pub writers : new.writers ≡ old.writers
  pub readers : new.readers ≡ old.readers
  pub added : ((new.pairs ≡ old.pairs) × Among p old.pairs) ⊎ (new.pairs ≡ old.pairs ++ p ∷ [])

-- all of these are there, and nothing else was added
pub record AddsAll (qs : List Pair) (old new : Listed) : Type 0 where
  pub writers : new.writers ≡ old.writers
  pub readers : new.readers ≡ old.readers
  pub extra : List Pair
  pub pairs : new.pairs ≡ old.pairs ++ extra
  pub all : AllByRecursion (λ q. Among q new.pairs) qs
  pub only : AllByRecursion (λ q. Among q qs) extra

-- nodes of both schemas
abbrev pub AreWithin : ℕ → ℕ → List Pair → Type 0
AreWithin writers readers ps = AllByRecursion (λ p. (p.0 < writers) × (p.1 < readers)) ps

-- how many marks are set
abbrev pub marks : List Bool → ℕ
marks [] = 0
marks (true ∷ bs) = suc (marks bs)
marks (false ∷ bs) = marks bs

-- a mark for each pair of nodes, set for those that are listed
pub record AreMarked (s : Inside) : Type 0 where
  pub all : length s.seen.items ≡ s.writers * s.readers
  pub counted : marks s.seen.items ≡ length s.pairs.items
  pub within : AreWithin s.writers s.readers s.pairs.items
  pub marked : (p : Pair) → p.1 < s.readers → slice_index_or s.seen.items (p.0 * s.readers + p.1) false ≡ true
      → Among p s.pairs.items
