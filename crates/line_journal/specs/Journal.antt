-- How a journal and its file go together. This project's own.
use Rattle.std.specs.Prelude.{◌≡◌, ◌⊎◌, ℕ, List, [], ◌∷◌, ◌++◌, ◌≤◌, ◌&&◌, nat_le, Bool, length, Option, Some, None, Ok}
use Rattle.std.specs.List.{flat_map, AllByRecursion}
use Rattle.sqlite_disk.specs.Disk.{Only}
use Rattle.line_journal.specs.Lines.{Line, IsLine, IsNewLine, block, at_rest, lines_in, staged, IsLeft}
use Rattle.line_journal.specs.declared.journal.Journal.{Journal}
use Rattle.line_journal.specs.declared.layout.TheConstants.{CLOSED, LONGEST, LAST_GATE}

-- if there is a last gate, it is that of the last line, which is no longer than a new line may be
abbrev pub IsLast : Option ℕ → List Line → Type 0
IsLast last lines = (at : ℕ) → last ≡ Some at → (before : List Line) (line : Line) → lines ≡ before ++ line ∷ []
    → (at ≡ length (flat_map block before)) × (length line ≤ LONGEST)

-- the file has these lines and nothing else, and all of it is on the disk
pub record IsAtRest {D : Type 0} (seen : D → List ℕ) (may_leave : D → List ℕ → Type 0)
    (journal : Journal D) (lines : List Line) : Type 0 where
  pub file : seen journal.disk ≡ at_rest lines
  pub gate : journal.gate ≡ length (flat_map block lines)
  pub last : IsLast journal.last lines
  pub are_lines : AllByRecursion IsLine lines
  pub durable : Only (seen journal.disk) (may_leave journal.disk)

-- the file has these lines, but for a half open gate at this byte, or, with None, the rest of one more line
pub record IsTorn {D : Type 0} (may_leave : D → List ℕ → Type 0) (half_open : Option ℕ)
    (journal : Journal D) (lines : List Line) : Type 0 where
  pub gate : journal.gate ≡ length (flat_map block lines)
  pub last : IsLast journal.last lines
  pub are_lines : AllByRecursion IsLine lines
  pub left : (c : List ℕ) → may_leave journal.disk c → IsLeft lines half_open c

-- the gate is closed on the disk, whatever comes after it
abbrev pub IsShut : {D : Type 0} → (D → List ℕ → Type 0) → Journal D → List Line → Type 0
IsShut may_leave journal lines = IsTorn may_leave None journal lines

-- one more line is on the disk, and the gate before it is closed
pub record IsStaged {D : Type 0} (seen : D → List ℕ) (may_leave : D → List ℕ → Type 0)
    (journal : Journal D) (lines : List Line) (line : Line) : Type 0 where
  pub file : seen journal.disk ≡ staged lines CLOSED CLOSED line
  pub gate : journal.gate ≡ length (flat_map block lines)
  pub are_lines : AllByRecursion IsLine lines
  pub is_line : IsNewLine line
  pub durable : Only (seen journal.disk) (may_leave journal.disk)

-- the file is at rest, its last line is this one, and the gate of that line is at this byte
pub record EndsWith {D : Type 0} (seen : D → List ℕ) (may_leave : D → List ℕ → Type 0)
    (journal : Journal D) (lines : List Line) (line : Line) (at : ℕ) : Type 0 where
  pub rests : IsAtRest seen may_leave journal (lines ++ line ∷ [])
  pub gate : at ≡ length (flat_map block lines)
  pub few : length line ≤ LONGEST

-- each byte of the gate is as it was or as it was written, and the others are as they were
pub record IsGateBetween (front rest : List ℕ) (old_first old_second new : ℕ) (file : List ℕ) : Type 0 where
  pub first : ℕ
  pub second : ℕ
  pub is_first : (first ≡ old_first) ⊎ (first ≡ new)
  pub is_second : (second ≡ old_second) ⊎ (second ≡ new)
  pub split : file ≡ front ++ first ∷ second ∷ rest

-- both bytes of the gate at this byte were written over, or one, or none
abbrev pub IsGateWrite : ℕ → ℕ → List ℕ → List ℕ → Type 0
IsGateWrite at new old file = (front rest : List ℕ) (first second : ℕ) → at ≡ length front
    → old ≡ front ++ first ∷ second ∷ rest → IsGateBetween front rest first second new file

-- the file reads as the lines, without one more line or with it
abbrev pub IsBeforeOrAfter : List Line → Line → List ℕ → Type 0
IsBeforeOrAfter lines line file = (lines_in file ≡ Ok lines) ⊎ (lines_in file ≡ Ok (lines ++ line ∷ []))

-- it is open, its disk may be used, and its file is not too long
abbrev pub takes_lines : {D : Type 0} → (D → Bool) → Journal D → Bool
takes_lines is_usable journal = journal.is_open && is_usable journal.disk && nat_le journal.gate LAST_GATE
