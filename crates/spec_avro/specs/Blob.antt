-- Which bytes are bytes or a fixed, and which are faulty (Avro 1.11, "Binary Encoding", bytes and fixed): after their
-- length, or as many as the schema says.
use Rattle.std.specs.Prelude.{◌≡◌, ◌≤◌, ◌<◌, ℕ, List, ◌++◌, length, pos}
use Rattle.spec_avro.specs.declared.limits.TheConstants.{MOST_CONTENT}
use Rattle.spec_avro.specs.Defect.{Defect, Malformed, Need}
use Rattle.spec_avro.specs.Number.{IsNumber64}

-- ---- fixed: the value's own bytes, as many as its size

pub record IsFixed (size : ℕ) (value bytes : List ℕ) : Type 0 where
  pub same : bytes ≡ value
  pub whole : length value ≡ size

abbrev pub FaultyFixed : ℕ → List ℕ → Defect → Type 0
FaultyFixed size bytes (Malformed kind offset) = ⊥
FaultyFixed size bytes Need = length bytes < size

-- ---- bytes after their length

-- the bytes spell the value, after its length
-- This project's own rule: no content is longer than `MOST_CONTENT`.
pub record IsBlob (value bytes : List ℕ) : Type 0 where
  pub len : List ℕ
  pub parts : bytes ≡ len ++ value
  pub number : IsNumber64 (pos (length value)) len
  pub short : length value ≤ MOST_CONTENT
