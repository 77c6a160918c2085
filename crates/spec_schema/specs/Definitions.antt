-- Which of the nodes are definitions of a full name (Avro 1.11, "Names").
use Rattle.std.specs.Prelude.{◌≡◌, ◌≢◌, ℕ, List, [], ◌∷◌, Some, slice_get}
use Rattle.std.specs.List.{AllByRecursion}
use Rattle.spec_schema.specs.Draft.{Draft}
use Rattle.spec_schema.specs.Head.{Named, head_of}

-- the node at that index is the record, enum or fixed of this full name
abbrev pub IsDefinedAt : List ℕ → List Draft → ℕ → Type 0
IsDefinedAt full nodes n = (d : Draft) × (slice_get nodes n ≡ Some d) × (head_of d ≡ Named full)

-- no node has this full name
abbrev pub IsNewName : List ℕ → List Draft → Type 0
IsNewName full nodes = AllByRecursion (λ d. head_of d ≢ Named full) nodes

-- no full name is defined twice
abbrev pub AreDefinedOnce : List Draft → Type 0
AreDefinedOnce [] = Unit {0}
AreDefinedOnce (d ∷ ds) = ((full : List ℕ) → head_of d ≡ Named full → IsNewName full ds) × AreDefinedOnce ds
