-- The written form of bytes after their length, and of items in one block (Avro 1.11, "Binary Encoding", bytes, arrays
-- and maps).
-- This project's own rule: numbers in their shortest spelling, and items in one block without a size.
use Rattle.std.specs.Prelude.{ℕ, zero, suc, List, [], ◌++◌, length, pos}
use Rattle.spec_avro.specs.Shortest.{shortest}

-- bytes after their length
abbrev pub after_length : List ℕ → List ℕ
after_length bytes = shortest (pos (length bytes)) ++ bytes

-- the count before the items of the one block: nothing where there are none
abbrev pub block_count : ℕ → List ℕ
block_count zero = []
block_count (suc n) = shortest (pos (suc n))

-- items in one block, and the count 0 after it
abbrev pub in_block : ℕ → List ℕ → List ℕ
in_block many bytes = block_count many ++ (bytes ++ shortest (pos 0))
