-- The listing of a program: its text. All of this is this project's own.
use Rattle.std.specs.Prelude.{ℕ, suc, List, [], ◌∷◌, ◌++◌, codes}
use Rattle.std.specs.Fmt.{decimal}
use Rattle.std.specs.List.{flat_map}
use Rattle.hex.specs.Hex.{encode_lower}
use Rattle.spec_avro.specs.MismatchKind as kinds
use Rattle.spec_avro.specs.declared.mismatch.Mismatch.{Mismatch}
use Rattle.spec_machine.specs.declared.entry.Entry.{Entry}
use Rattle.spec_machine.specs.declared.entry.Entry.TheVariants as entries
use Rattle.spec_machine.specs.declared.instr.Instr.{Instr}
use Rattle.spec_machine.specs.declared.operation.Shape.{Shape}
use Rattle.spec_machine.specs.declared.operation.Shape.TheVariants as shapes
use Rattle.spec_machine.specs.Operation.{name_of, operand_of, operation_of, shape_of}
use Rattle.spec_machine.specs.Program.{Program}

-- ---- words, each after a space

-- a number, in decimals without leading zeros
abbrev pub number : ℕ → List ℕ
number n = codes " " ++ decimal n

-- a position, or `!` and the number of a miss
abbrev pub entry : Entry → List ℕ
entry (entries.Position i) = number i
entry (entries.Miss m) = codes " !" ++ decimal m

abbrev pub operand : Shape → ℕ → List ℕ
operand shapes.Nothing n = []
operand _ n = number n

-- ---- lines, of a thing and its number

abbrev pub constant_line : ℕ → List ℕ → List ℕ
constant_line i bytes = codes "const" ++ number i ++ codes " " ++ encode_lower bytes ++ 10 ∷ []

abbrev pub map_line : ℕ → List Entry → List ℕ
map_line i map = codes "map" ++ number i ++ flat_map entry map ++ 10 ∷ []

abbrev pub jumps_line : ℕ → List ℕ → List ℕ
jumps_line i addresses = codes "jumps" ++ number i ++ flat_map number addresses ++ 10 ∷ []

abbrev pub miss_line : ℕ → Mismatch → List ℕ
miss_line i m =
    codes "miss" ++ number i ++ codes " " ++ kinds.name_of m.kind
    ++ number m.writer_node ++ number m.reader_node ++ 10 ∷ []

abbrev pub instr_line : ℕ → Instr → List ℕ
instr_line a i =
    decimal a ++ codes " " ++ name_of (operation_of i) ++ operand (shape_of (operation_of i)) (operand_of i) ++ 10 ∷ []

-- ---- the listing

-- a line for each thing, numbered from a number
abbrev pub lines_from : {A : Type 0} → (ℕ → A → List ℕ) → ℕ → List A → List ℕ
lines_from line n [] = []
lines_from line n (x ∷ xs) = line n x ++ lines_from line (suc n) xs

abbrev pub lines : {A : Type 0} → (ℕ → A → List ℕ) → List A → List ℕ
lines line things = lines_from line 0 things

-- the header, and the lines of constants, maps, jump tables, misses and instructions
abbrev pub listing_of : Program → List ℕ
listing_of P =
    codes "avro program 1" ++ 10 ∷ (lines constant_line P.constants
    ++ (lines map_line P.maps
    ++ (lines jumps_line P.jumps
    ++ (lines miss_line P.misses
    ++ lines instr_line P.code))))
