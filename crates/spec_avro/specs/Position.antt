-- Positions (Avro 1.11, "Binary Encoding", enum and union): an int, from 0 and below the count of symbols or branches.
use Rattle.std.specs.Prelude.{◌≡◌, ◌<◌, ◌⊎◌, ℕ, List, ◌++◌, ℤ, pos, negsuc}
use Rattle.spec_avro.specs.declared.malformed.MalformedKind.{MalformedKind}
use Rattle.spec_avro.specs.Number.{IsNumber32, int_limit}
use Rattle.spec_avro.specs.Defect.{Defect, Malformed, Need}
use Rattle.spec_avro.specs.Fault.{FaultyNumber}

abbrev pub IsPosition : ℕ → ℤ → Type 0
IsPosition many (pos n) = n < many
IsPosition many (negsuc n) = ⊥

-- the bytes spell position n, one of `many`
abbrev pub SpellsPosition : ℕ → ℕ → List ℕ → Type 0
SpellsPosition many n bytes = (n < many) × IsNumber32 (pos n) bytes

-- a number that is none of `many` positions
pub record IsBadPosition (many : ℕ) (bytes : List ℕ) : Type 0 where
  pub position : List ℕ
  pub rest : List ℕ
  pub n : ℤ
  pub parts : bytes ≡ position ++ rest
  pub number : IsNumber32 n position
  pub bad : ¬ (IsPosition many n)

-- no number; or one that is no position, which is of its own kind
abbrev pub FaultyPosition : MalformedKind → ℕ → List ℕ → Defect → Type 0
FaultyPosition bad many bytes (Malformed kind offset) =
    FaultyNumber int_limit bytes (Malformed kind offset) ⊎ (IsBadPosition many bytes × (kind ≡ bad) × (offset ≡ 0))
FaultyPosition bad many bytes Need = FaultyNumber int_limit bytes Need
