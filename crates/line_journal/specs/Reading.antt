-- What comes at a gate of a file. This project's own.
use Rattle.std.specs.Prelude.{◌≡◌, ℕ, ◌+◌, ◌≤◌, ◌<◌, List, ◌∷◌, ◌++◌, length, drop, None, Err}
use Rattle.std.specs.List.{slice_range}
use Rattle.line_journal.specs.Lines.{IsLine, IsHalf, closed_gate, damage_at, read_from}
use Rattle.line_journal.specs.declared.layout.TheConstants.{OPEN, NEWLINE, CLOSED, LONGEST}
use Rattle.line_journal.specs.declared.reading.Next.{Next}
use Rattle.line_journal.specs.declared.reading.Next.TheVariants as nexts

-- a line from this byte to before the newline at `end`, and after it the rest
pub record IsLineTo (file : List ℕ) (from end : ℕ) (rest : List ℕ) : Type 0 where
  pub bytes : drop from file ≡ slice_range file from end ++ NEWLINE ∷ rest
  pub is_line : IsLine (slice_range file from end)
  pub forward : from ≤ end
  pub within : end < length file

-- a half open gate before a line that ends the file
pub record IsLastLine (file : List ℕ) (at end : ℕ) : Type 0 where
  pub first : ℕ
  pub second : ℕ
  pub half : IsHalf first second
  pub gate : drop at file ≡ first ∷ second ∷ drop (at + 2) file
  pub line : IsLineTo file (at + 2) end closed_gate

-- at this byte: a block, a line whose gate is half open, the closed gate, or damage
abbrev pub IsNext : List ℕ → ℕ → Next → Type 0
IsNext file at (nexts.Line end) =
    (drop at file ≡ OPEN ∷ OPEN ∷ drop (at + 2) file) × IsLineTo file (at + 2) end (drop (end + 1) file)
IsNext file at (nexts.LastLine end) = IsLastLine file at end
IsNext file at nexts.End =
    (drop at file ≡ CLOSED ∷ CLOSED ∷ drop (at + 2) file) × (length (drop (at + 2) file) ≤ LONGEST + 3)
IsNext file at (nexts.Damaged place) = read_from at None (drop at file) ≡ Err (damage_at place)
