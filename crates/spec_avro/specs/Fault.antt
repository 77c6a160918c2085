-- The first fault of bytes that begin no spelling: all parts before one are spelled, and that part is faulty. Which
-- bytes are no spelling is the standard's rule (Avro 1.11, "Binary Encoding").
-- This project's own rules: the kinds of faults, their places, and the longest length.
use Rattle.std.specs.Prelude.{◌≡◌, ◌≤◌, ◌<◌, ℕ, suc, ◌+◌, List, ◌∷◌, ◌++◌, length, ◌⊎◌, ℤ, pos, negsuc}
use Rattle.std.specs.List.{AllByRecursion}
use Rattle.std.specs.Str.{IsUtf8}
use Rattle.spec_avro.specs.declared.malformed.MalformedKind.TheVariants.{BadNumber, BadLength, BadText}
use Rattle.spec_avro.specs.declared.limits.TheConstants.{MOST_CONTENT}
use Rattle.spec_avro.specs.Defect.{Defect, Malformed, Need}
use Rattle.spec_avro.specs.Number.{IsNumber64, Limit, long_limit}

-- a defect with `len` added to its offset, if it has one
abbrev pub shifted : ℕ → Defect → Defect
shifted len (Malformed kind offset) = Malformed kind (len + offset)
shifted len Need = Need

-- ---- numbers ("Primitive Types", int and long)

abbrev pub AllHigh : List ℕ → Type 0
AllHigh bytes = AllByRecursion (λ b. 128 ≤ b) bytes

-- as many bytes as a number may have, all but the last with the high bit, and the last too great
pub record IsTooGreat (limit : Limit) (bytes : List ℕ) : Type 0 where
  pub front : List ℕ
  pub last : ℕ
  pub rest : List ℕ
  pub parts : bytes ≡ front ++ last ∷ rest
  pub high : AllHigh front
  pub whole : suc (length front) ≡ limit.most
  pub great : limit.top < last

-- fewer bytes than that, all with the high bit
pub record NumberNeedsMore (limit : Limit) (bytes : List ℕ) : Type 0 where
  pub high : AllHigh bytes
  pub few : length bytes < limit.most

abbrev pub FaultyNumber : Limit → List ℕ → Defect → Type 0
FaultyNumber limit bytes (Malformed kind offset) = IsTooGreat limit bytes × (kind ≡ BadNumber) × (offset ≡ 0)
FaultyNumber limit bytes Need = NumberNeedsMore limit bytes

-- ---- contents after their length ("Primitive Types", bytes), and texts (string)

abbrev pub IsLength : ℤ → Type 0
IsLength (pos n) = n ≤ MOST_CONTENT
IsLength (negsuc n) = ⊥

-- a number that is no length
pub record IsBadLength (bytes : List ℕ) : Type 0 where
  pub len : List ℕ
  pub rest : List ℕ
  pub n : ℤ
  pub parts : bytes ≡ len ++ rest
  pub number : IsNumber64 n len
  pub bad : ¬ (IsLength n)

abbrev pub FaultyLength : List ℕ → Defect → Type 0
FaultyLength bytes (Malformed kind offset) =
    FaultyNumber long_limit bytes (Malformed kind offset) ⊎ (IsBadLength bytes × (kind ≡ BadLength) × (offset ≡ 0))
FaultyLength bytes Need = FaultyNumber long_limit bytes Need

-- a length, and fewer bytes than it says
pub record ContentNeedsMore (bytes : List ℕ) : Type 0 where
  pub len : List ℕ
  pub content : List ℕ
  pub n : ℕ
  pub parts : bytes ≡ len ++ content
  pub number : IsNumber64 (pos n) len
  pub short : n ≤ MOST_CONTENT
  pub few : length content < n

abbrev pub FaultyContent : List ℕ → Defect → Type 0
FaultyContent bytes (Malformed kind offset) = FaultyLength bytes (Malformed kind offset)
FaultyContent bytes Need = FaultyLength bytes Need ⊎ ContentNeedsMore bytes

-- a whole content that is not UTF-8, and how many bytes come before it
pub record IsBadText (bytes : List ℕ) (before : ℕ) : Type 0 where
  pub len : List ℕ
  pub content : List ℕ
  pub rest : List ℕ
  pub parts : bytes ≡ len ++ (content ++ rest)
  pub number : IsNumber64 (pos (length content)) len
  pub short : length content ≤ MOST_CONTENT
  pub bad : ¬ (IsUtf8 content)
  pub place : before ≡ length len

abbrev pub FaultyText : List ℕ → Defect → Type 0
FaultyText bytes (Malformed kind offset) =
    FaultyContent bytes (Malformed kind offset) ⊎ (IsBadText bytes offset × (kind ≡ BadText))
FaultyText bytes Need = FaultyContent bytes Need
