-- Decoding the items of an array or the pairs of a map, one by one (Avro 1.11, "Binary Encoding", arrays and maps).
use Rattle.std.specs.Prelude.{ℕ, zero, suc, ◌-◌, List, [], ◌∷◌, Option, Some, None}
use Rattle.spec_decoding.specs.Walk.{Walk, first_walk}
use Rattle.spec_avro.specs.declared.meter.Meter.{Meter}
use Rattle.spec_avro.specs.declared.limits.TheConstants.{MOST_UNITS}
use Rattle.spec_decoding.specs.BlockDecoding.{next_item}
use Rattle.spec_decoding.specs.Opening.{opened_blocks}
use Rattle.spec_decoding.specs.Decoding.{Complete, Decoding, Failed, inside, ◌>>=◌}
use Rattle.avro_bytes.specs.Decoding.{map_decoding}
use Rattle.spec_avro.specs.Defect.{Need}

-- what decodes an item at an offset
abbrev pub Reader : Type 0 → Type 0
Reader A = ℕ → Meter → Decoding A

-- an item, and those after it; or the end
abbrev pub items_from : {A : Type 0} → Reader A → (Walk → ℕ → Meter → Decoding (List A)) → Option Walk → ℕ → Meter
    → Decoding (List A)
items_from reader others None at m = Complete [] at m
items_from reader others (Some walk) at m =
    reader at m >>= λ v to after. map_decoding (λ vs. v ∷ vs) (others walk to after)

-- the items that a walk comes to, and the end, in at most n steps
unfoldable pub items_at : {A : Type 0} → ℕ → Reader A → List ℕ → Walk → ℕ → Meter → Decoding (List A)
items_at zero reader bytes walk at m = Failed Need
items_at (suc left) reader bytes walk at m =
    next_item walk bytes at m >>= items_from reader (items_at left reader bytes)

-- as many steps as there may be units more, and one for the end
abbrev pub steps_left : Meter → ℕ
steps_left m = suc (MOST_UNITS - m.units)

-- the items of the blocks at an offset, which open one level
abbrev pub blocks_at : {A : Type 0} → Reader A → List ℕ → ℕ → Meter → Decoding (List A)
blocks_at reader bytes at m =
    inside (opened_blocks at m) (λ within. items_at (steps_left within) reader bytes (first_walk at) at within)
