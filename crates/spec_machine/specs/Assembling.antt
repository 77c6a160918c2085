-- What assembling a listing answers: a program, or the first fault. All of this is this project's own.
use Rattle.std.specs.Prelude.{ℕ, suc, ◌+◌, Bool, true, not, ◌&&◌, ◌==◌, nat_lt, nat_le, if◌then◌else◌, List, [], ◌∷◌, ◌++◌, length, codes, Some, None, Result, Ok, Err}
use Rattle.std.specs.Str.{bytes_eq}
use Rattle.spec_machine.specs.declared.limits.TheConstants.{MOST_CONSTANT_BYTES, MOST_ENTRIES, MOST_INSTRS, MOST_TABLES}
use Rattle.spec_machine.specs.declared.program_error.ProgramError.{ProgramError}
use Rattle.spec_machine.specs.declared.program_error.ProgramError.TheVariants as wrong
use Rattle.spec_machine.specs.Judging.{judged}
use Rattle.spec_machine.specs.Lengths.{total_length}
use Rattle.spec_machine.specs.Program.{Program}
use Rattle.spec_machine.specs.declared.listing_fault.AsmErrorKind.{AsmErrorKind}
use Rattle.spec_machine.specs.declared.listing_fault.AsmErrorKind.TheVariants.{BadHeader, BadLine, BadIndex, TooLarge, NoCode, OutOfRange}
use Rattle.spec_machine.specs.declared.listing_fault.AsmFault.{AsmFault}
use Rattle.spec_machine.specs.ListingParts.{Numbered, constant_in, each_in, entry_in, instr_in, miss_in, numbered}
use Rattle.spec_machine.specs.ListingWords.{number_in, parts, words}

infixl 10 ◌>>=◌
abbrev pub ◌>>=◌ : {A B : Type 0} → Result A AsmFault → (A → Result B AsmFault) → Result B AsmFault
(Ok x) >>= f = f x
(Err e) >>= f = Err e

-- a fault in line `at`, counted from 1
abbrev pub fault : AsmErrorKind → ℕ → AsmFault
fault kind at = record { kind = kind; line = at }

-- ---- a thing and its number

-- It is in its place, its number is the next one, and there is room for it.
abbrev pub checked : ℕ → Bool → ℕ → ℕ → Bool → Result (Unit {0}) AsmFault
checked at here next number fits =
    if not here then Err (fault BadLine at)
    else if not (number == next) then Err (fault BadIndex at)
    else if not fits then Err (fault TooLarge at)
    else Ok tt

abbrev pub placed : {A : Type 0} → ℕ → Bool → ℕ → (A → Bool) → Numbered A → Result A AsmFault
placed at here next fits None = Err (fault BadLine at)
placed at here next fits (Some x) = do
  _ ← checked at here next x.0 (fits x.1)
  Ok x.1

-- ---- one line more

-- whether nothing came yet from a section on
abbrev pub is_before_code : Program → Bool
is_before_code P = length P.code == 0

abbrev pub is_before_misses : Program → Bool
is_before_misses P = length P.misses == 0 && is_before_code P

abbrev pub is_before_jumps : Program → Bool
is_before_jumps P = length P.jumps == 0 && is_before_misses P

abbrev pub is_before_maps : Program → Bool
is_before_maps P = length P.maps == 0 && is_before_jumps P

abbrev pub fits_constant : Program → List ℕ → Bool
fits_constant P bytes =
    nat_lt (length P.constants) MOST_TABLES && nat_le (total_length P.constants + length bytes) MOST_CONSTANT_BYTES

abbrev pub fits_list : {A : Type 0} → List (List A) → List A → Bool
fits_list lists list = nat_lt (length lists) MOST_TABLES && nat_le (length list) MOST_ENTRIES

unfoldable pub with_constant : ℕ → Program → List (List ℕ) → Result Program AsmFault
with_constant at P ws = do
  bytes ← placed at (is_before_maps P) (length P.constants) (fits_constant P) (numbered constant_in ws)
  Ok (record P { constants = P.constants ++ bytes ∷ [] })

unfoldable pub with_map : ℕ → Program → List (List ℕ) → Result Program AsmFault
with_map at P ws = do
  map ← placed at (is_before_jumps P) (length P.maps) (fits_list P.maps) (numbered (each_in entry_in) ws)
  Ok (record P { maps = P.maps ++ map ∷ [] })

unfoldable pub with_jumps : ℕ → Program → List (List ℕ) → Result Program AsmFault
with_jumps at P ws = do
  table ← placed at (is_before_misses P) (length P.jumps) (fits_list P.jumps) (numbered (each_in number_in) ws)
  Ok (record P { jumps = P.jumps ++ table ∷ [] })

unfoldable pub with_miss : ℕ → Program → List (List ℕ) → Result Program AsmFault
with_miss at P ws = do
  miss ← placed at (is_before_code P) (length P.misses) (λ _. nat_lt (length P.misses) MOST_TABLES)
      (numbered miss_in ws)
  Ok (record P { misses = P.misses ++ miss ∷ [] })

unfoldable pub with_instr : ℕ → Program → List (List ℕ) → Result Program AsmFault
with_instr at P ws = do
  instr ← placed at true (length P.code) (λ _. nat_lt (length P.code) MOST_INSTRS) (numbered instr_in ws)
  Ok (record P { code = P.code ++ instr ∷ [] })

-- a line by its first word
unfoldable pub with_words : ℕ → Program → List (List ℕ) → Result Program AsmFault
with_words at P [] = Err (fault BadLine at)
with_words at P (w ∷ ws) =
    if bytes_eq w (codes "const") then with_constant at P ws
    else if bytes_eq w (codes "map") then with_map at P ws
    else if bytes_eq w (codes "jumps") then with_jumps at P ws
    else if bytes_eq w (codes "miss") then with_miss at P ws
    else with_instr at P (w ∷ ws)

-- ---- all lines

-- Each line is ended by an LF, so that the last part is empty.
unfoldable pub with_lines : ℕ → Program → List (List ℕ) → Result Program AsmFault
with_lines at P [] = Ok P
with_lines at P (line ∷ []) = if length line == 0 then Ok P else Err (fault BadLine at)
with_lines at P (line ∷ next ∷ lines) = do
  Q ← with_words at P (words line)
  with_lines (suc at) Q (next ∷ lines)

abbrev pub nothing : Program
nothing = record { code = []; constants = []; maps = []; jumps = []; misses = [] }

abbrev pub after_header : List (List ℕ) → Result Program AsmFault
after_header [] = Err (fault BadLine 1)
after_header (line ∷ lines) = with_lines 2 nothing (line ∷ lines)

unfoldable pub with_header : List (List ℕ) → Result Program AsmFault
with_header [] = Err (fault BadHeader 1)
with_header (line ∷ lines) =
    if bytes_eq line (codes "avro program 1") then after_header lines else Err (fault BadHeader 1)

-- ---- what is out of range

-- the line of the first constant is 2
abbrev pub line_of_map : Program → ℕ
line_of_map P = 2 + length P.constants

abbrev pub line_of_jumps : Program → ℕ
line_of_jumps P = line_of_map P + length P.maps

abbrev pub line_of_miss : Program → ℕ
line_of_miss P = line_of_jumps P + length P.jumps

abbrev pub line_of_code : Program → ℕ
line_of_code P = line_of_miss P + length P.misses

-- what passes a limit or is empty was reported in reading
abbrev pub fault_of : Program → ProgramError → AsmFault
fault_of P wrong.NoCode = fault NoCode (line_of_code P)
fault_of P (wrong.Entry map entry) = fault OutOfRange (line_of_map P + map)
fault_of P (wrong.Address table address) = fault OutOfRange (line_of_jumps P + table)
fault_of P (wrong.Miss miss) = fault OutOfRange (line_of_miss P + miss)
fault_of P (wrong.Instr address) = fault OutOfRange (line_of_code P + address)
fault_of P _ = fault TooLarge 1

abbrev pub in_range : Program → Result Program ProgramError → Result Program AsmFault
in_range P (Ok Q) = Ok Q
in_range P (Err e) = Err (fault_of P e)

-- ---- the whole

unfoldable pub assembled : List ℕ → Result Program AsmFault
assembled text = do
  P ← with_header (parts 10 text)
  in_range P (judged P)
