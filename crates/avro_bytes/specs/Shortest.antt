-- Encodings that are known to be the shortest by their last byte. This project's own.
use Rattle.std.specs.List.{AllByRecursion}
use Rattle.std.specs.Prelude.{◌⊎◌, length, slice_index, ◌≡◌, ◌<◌, ℕ, ◌+◌, ◌-◌, ◌*◌, ◌^◌, List, ◌++◌, ℤ}
use Rattle.spec_avro.specs.Number.{Limit, zigzag}

-- a number that the limit's bytes can hold
abbrev pub FitsLimit : Limit → ℤ → Type 0
FitsLimit limit n = zigzag n < (limit.top + 1) * 2 ^ (7 * (limit.most - 1))

-- each is below 256, as a byte is
abbrev pub AreBytes : List ℕ → Type 0
AreBytes bytes = AllByRecursion (λ b. b < 256) bytes

-- one byte, or a last one that adds something
abbrev pub IsTight : List ℕ → Type 0
IsTight bytes = (length bytes ≡ 1) ⊎ (0 < slice_index bytes (length bytes - 1))

-- new is old with something after it
abbrev pub Extends : List ℕ → List ℕ → Type 0
Extends old new = (more : List ℕ) × (new ≡ old ++ more)
