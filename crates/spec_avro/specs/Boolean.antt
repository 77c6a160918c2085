-- Which byte is a boolean, and which is faulty (Avro 1.11, "Binary Encoding", boolean): one byte, 0 or 1.
use Rattle.std.specs.Prelude.{◌≡◌, ◌<◌, ℕ, List, [], ◌∷◌, Bool, true, false}
use Rattle.spec_avro.specs.declared.malformed.MalformedKind.TheVariants.{BadBoolean}
use Rattle.spec_avro.specs.Defect.{Defect, Malformed, Need}

abbrev pub boolean_byte : Bool → ℕ
boolean_byte false = 0
boolean_byte true = 1

-- the bytes spell the boolean
abbrev pub IsBoolean : Bool → List ℕ → Type 0
IsBoolean value bytes = bytes ≡ boolean_byte value ∷ []

-- a first byte above 1
pub record IsAboveOne (bytes : List ℕ) : Type 0 where
  pub byte : ℕ
  pub rest : List ℕ
  pub parts : bytes ≡ byte ∷ rest
  pub above : 1 < byte

abbrev pub FaultyBoolean : List ℕ → Defect → Type 0
FaultyBoolean bytes (Malformed kind offset) = IsAboveOne bytes × (kind ≡ BadBoolean) × (offset ≡ 0)
FaultyBoolean bytes Need = bytes ≡ []
