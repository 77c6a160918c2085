-- The lines of an input. This project's own.
use Rattle.std.specs.Prelude.{ℕ, ◌==◌, if◌then◌else◌, List, [], ◌∷◌, slice_index_or}

-- a byte at the front of the first line, which is a new one where there was none
unfoldable pub in_front : ℕ → List (List ℕ) → List (List ℕ)
in_front byte [] = (byte ∷ []) ∷ []
in_front byte (line ∷ later) = (byte ∷ line) ∷ later

-- Each LF, 10, ends a line. The last line may lack it, and an empty rest after the last LF is no line.
unfoldable pub lines : List ℕ → List (List ℕ)
lines [] = []
lines (byte ∷ rest) = if byte == 10 then [] ∷ lines rest else in_front byte (lines rest)

-- a line of the input, which is the empty text where it is missing
abbrev pub line_at : List (List ℕ) → ℕ → List ℕ
line_at inputs i = slice_index_or inputs i []
