-- Which bytes spell a length (Avro 1.11, "Binary Encoding", bytes and string): a long, not below 0.
-- This project's own rule: none is greater than `MOST_CONTENT`.
use Rattle.std.specs.Prelude.{◌≤◌, ℕ, List, pos}
use Rattle.spec_avro.specs.declared.limits.TheConstants.{MOST_CONTENT}
use Rattle.spec_avro.specs.Number.{IsNumber64}

-- the bytes spell the length
abbrev pub SpellsLength : ℕ → List ℕ → Type 0
SpellsLength n bytes = (n ≤ MOST_CONTENT) × IsNumber64 (pos n) bytes
