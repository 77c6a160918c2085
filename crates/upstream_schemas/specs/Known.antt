-- The namings whose receipts are known. This project's own.
use Rattle.std.specs.Prelude.{◌≡◌, ◌<◌, ℕ, List, [], ◌∷◌, ◌++◌, drop, length, take, slice_index_or, IfSome, Some}
use Rattle.boxcar.specs.Slot.{Named}
use Rattle.spec_registry.specs.Path.{Path}
use Rattle.spec_registry.specs.Receipt.{IsReceiptOf, Shown}
use Rattle.spec_service.specs.UpstreamNaming.{IsNamed, Names, Naming}
use Rattle.upstream_schemas.specs.declared.known.KnownNaming.{KnownNaming}
use Rattle.upstream_schemas.specs.declared.known.KnownNamings.{KnownNamings}
use Rattle.upstream_schemas.specs.declared.limits.TheConstants.{KNOWN}

-- the names of the cells as one list of numbers, by which slots are tagged: how many cells the registry has, and the
-- names of the cells of both
abbrev pub tag_of : Names → List ℕ
tag_of names = length names.registry ∷ (names.registry ++ names.table)

-- the names of the cells that a tag has
abbrev pub names_of : List ℕ → Names
names_of [] = record { registry = []; table = [] }
names_of (count ∷ names) = record { registry = take count names; table = drop count names }

-- the naming and the receipt are of one schema
abbrev pub IsOfOne : Path Naming → Shown → Type 0
IsOfOne named receipt = IfSome named.last.1 (λ naming. receipt.schema ≡ Some naming.schema)

-- each slot has a tag with these names
abbrev pub AreTagged : Names → List Named → Type 0
AreTagged names slots = (j : ℕ) (d : Named) → j < length slots → names_of (slice_index_or slots j d).tag ≡ names

module _ {U : Type 0} where
  -- a naming and a receipt of these cells were kept, which are of one schema
  pub record IsKnownNaming (names : Names) (known : KnownNaming U) : Type 0 where
    pub named : IsNamed names known.named
    pub receipt : IsReceiptOf names.registry known.receipt
    pub one : IsOfOne known.named known.receipt

  -- a table of namings of these cells
  abbrev pub IsTableOf : Names → KnownNamings U → Type 0
  IsTableOf names table = (length table.slots.items ≡ KNOWN) × AreTagged names table.slots.items
