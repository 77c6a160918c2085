-- What the bytes of a file mean as lines. This project's own.
use Rattle.std.specs.Prelude.{◌≡◌, ◌≢◌, ◌⊎◌, ℕ, ◌+◌, ◌≤◌, ◌==◌, ◌&&◌, ◌||◌, nat_le, Bool, false, List, [], ◌∷◌, ◌++◌, length, if◌then◌else◌, map, Vec, Option, Some, None, Result, Ok, Err}
use Rattle.std.specs.List.{flat_map, AllByRecursion}
use Rattle.std.specs.Global.{Global}
use Rattle.line_journal.specs.declared.error.Damage.{Damage}
use Rattle.line_journal.specs.declared.layout.TheConstants.{OPEN, CLOSED, NEWLINE, LONGEST}

-- the bytes of a line, without its newline
abbrev pub Line : Type 0
Line = List ℕ

-- it has no newline
abbrev pub IsLine : Line → Type 0
IsLine line = AllByRecursion (λ b. b ≢ NEWLINE) line

-- a line that may be added
abbrev pub IsNewLine : Line → Type 0
IsNewLine line = IsLine line × (length line ≤ LONGEST)

-- ---- gates, of two bytes each

abbrev pub closed_gate : List ℕ
closed_gate = CLOSED ∷ CLOSED ∷ []

abbrev pub is_open : ℕ → ℕ → Bool
is_open a b = (a == OPEN) && (b == OPEN)

abbrev pub is_closed : ℕ → ℕ → Bool
is_closed a b = (a == CLOSED) && (b == CLOSED)

-- it was being opened or closed when the machine stopped: one of its bytes is open, the other one closed
abbrev pub IsHalf : ℕ → ℕ → Type 0
IsHalf a b = ((a ≡ OPEN) × (b ≡ CLOSED)) ⊎ ((a ≡ CLOSED) × (b ≡ OPEN))

abbrev pub is_half_open : ℕ → ℕ → Bool
is_half_open a b = ((a == OPEN) && (b == CLOSED)) || ((a == CLOSED) && (b == OPEN))

-- ---- files

-- an open gate, a line, and its newline
abbrev pub block : Line → List ℕ
block line = OPEN ∷ OPEN ∷ (line ++ NEWLINE ∷ [])

-- the file that has these lines and no more: their blocks, and then a closed gate
abbrev pub at_rest : List Line → List ℕ
at_rest lines = flat_map block lines ++ closed_gate

-- what is written after the closed gate: a line, its newline, and the next closed gate
abbrev pub line_and_gate : Line → List ℕ
line_and_gate line = line ++ NEWLINE ∷ closed_gate

-- the blocks of these lines, a gate, and one more line
abbrev pub staged : List Line → ℕ → ℕ → Line → List ℕ
staged lines first second line = flat_map block lines ++ first ∷ second ∷ line_and_gate line

-- the file at rest, and after it at most what one line leaves
pub record HasRest (lines : List Line) (file : List ℕ) : Type 0 where
  pub rest : List ℕ
  pub split : file ≡ at_rest lines ++ rest
  pub few : length rest ≤ LONGEST + 3

-- the file at rest, but that the gate of the last line, at this byte, is half open
pub record IsHalfOpen (lines : List Line) (at : ℕ) (file : List ℕ) : Type 0 where
  pub before : List Line
  pub last : Line
  pub first : ℕ
  pub second : ℕ
  pub are : lines ≡ before ++ last ∷ []
  pub half : IsHalf first second
  pub here : at ≡ length (flat_map block before)
  pub split : file ≡ staged before first second last

-- the file at rest, but for what a crash leaves: a half open gate at this byte, or the rest of one line
abbrev pub IsLeft : List Line → Option ℕ → List ℕ → Type 0
IsLeft lines None file = HasRest lines file
IsLeft lines (Some at) file = IsHalfOpen lines at file

-- ---- reading

-- damage at this byte, in the line that is being read
abbrev pub damage_at : ℕ → Damage
damage_at at = record { at = at; line = 1 }

-- a line before those that are read: damage after it is one line further on
abbrev pub with_line : Line → Result (List Line) Damage → Result (List Line) Damage
with_line line (Ok lines) = Ok (line ∷ lines)
with_line line (Err damage) = Err (record { at = damage.at; line = damage.line + 1 })

abbrev pub is_closed_gate : List ℕ → Bool
is_closed_gate (a ∷ b ∷ []) = is_closed a b
is_closed_gate _ = false

-- a line, its newline and a closed gate, and nothing more
abbrev pub is_last_line : List ℕ → Bool
is_last_line [] = false
is_last_line (b ∷ rest) = if b == NEWLINE then is_closed_gate rest else is_last_line rest

-- A gate before a line that counts: it is open, or half open where the line is the last one and whole.
abbrev pub opens : ℕ → ℕ → List ℕ → Bool
opens a b rest = is_open a b || (is_half_open a b && is_last_line rest)

-- The gate after the last line: it is closed, and at most what one line leaves comes after it.
abbrev pub closes : ℕ → ℕ → List ℕ → Bool
closes a b rest = is_closed a b && nat_le (length rest) (LONGEST + 3)

-- The lines from this byte on, or where they are damaged. With `None` a gate comes next, and with `Some` the rest of a
-- line of which these bytes were read.
abbrev pub read_from : ℕ → Option Line → List ℕ → Result (List Line) Damage
read_from at (Some line) [] = Err (damage_at at)
read_from at (Some line) (b ∷ rest) =
    if b == NEWLINE then with_line line (read_from (at + 1) None rest)
    else read_from (at + 1) (Some (line ++ b ∷ [])) rest
read_from at None [] = Err (damage_at at)
read_from at None (a ∷ []) = Err (damage_at at)
read_from at None (a ∷ b ∷ rest) =
    if opens a b rest then read_from (at + 2) (Some []) rest
    else (if closes a b rest then Ok [] else Err (damage_at at))

-- the lines of a file, or where it is damaged
abbrev pub lines_in : List ℕ → Result (List Line) Damage
lines_in file = read_from 0 None file

-- the lines as lists, wherever they are in memory
abbrev pub lines_of : List (Vec ℕ Global) → List Line
lines_of vs = map (λ v. v.items) vs
