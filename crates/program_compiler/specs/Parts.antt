-- The parts of a program, each of the statements, and when there is none since a number of it is too large.
-- This project's own.
use Rattle.std.specs.Prelude.{◌≡◌, ◌<◌, ◌≤◌, ◌^◌, ℕ, true, List, [], ◌∷◌, length, Option, MatchOption, Result, Ok, Err}
use Rattle.std.specs.Global.{Vec}
use Rattle.std.specs.List.{AllByRecursion}
use Rattle.std.specs.Str.{bytes_eq}
use Rattle.spec_avro.specs.declared.limits.TheConstants.{MOST_OUTPUT}
use Rattle.spec_machine.specs.declared.entry.Entry.{Entry}
use Rattle.spec_machine.specs.declared.instr.Instr.{Instr}
use Rattle.isa.specs.declared.parts.Parts.{Parts}
use Rattle.spec_machine.specs.Program.{Program}
use Rattle.isa.specs.Program.{program_of}
use Rattle.spec_machine.specs.Code.{are_whole}
use Rattle.spec_machine.specs.Range.{InstrIsInRange, IsProgram, IsWithinLimits, sizes_of}
use Rattle.spec_machine.specs.Statements.{Statement}
use Rattle.spec_machine.specs.Numbering.{adding, constants_of, named_in}
use Rattle.program_compiler.specs.declared.error.CompileError.{CompileError}
use Rattle.program_compiler.specs.declared.error.CompileError.TheVariants.{ProgramTooLarge, NoMemory}

-- a number as an operand, or none where it takes more than 32 bits
abbrev pub Narrows : Option ℕ → ℕ → Type 0
Narrows result n = MatchOption result (2 ^ 32 ≤ n) (λ m. m ≡ n)

-- some of them passes 32 bits
abbrev pub IsWide : List ℕ → Type 0
IsWide ns = (most : ℕ) → most ≤ 2 ^ 32 → AllByRecursion (λ n. n < most) ns → ⊥

abbrev pub AreWide : List (List ℕ) → Type 0
AreWide lists = (most : ℕ) → most ≤ 2 ^ 32 → AllByRecursion (AllByRecursion (λ n. n < most)) lists → ⊥

-- some constant has too many bytes
abbrev pub IsLong : List (List ℕ) → Type 0
IsLong lists = AllByRecursion (λ b. length b ≤ MOST_OUTPUT) lists → ⊥

-- constants with others after them, each once, or none where one of those is too long
abbrev pub Notes : Option (List (List ℕ)) → List (List ℕ) → List (List ℕ) → Type 0
Notes result constants others = MatchOption result (IsLong others) (λ more. more ≡ adding bytes_eq constants others)

-- no program within the limits has these instructions and these statements' constants
abbrev pub FitNowhere : List (List ℕ) → List Instr → Type 0
FitNowhere constants code = (P : Program) → IsWithinLimits P → AllByRecursion (InstrIsInRange (sizes_of P)) code
    → AllByRecursion (λ b. length b ≤ MOST_OUTPUT) constants → ⊥

-- an instruction, unless no program within the limits has it and these constants
abbrev pub LinksTo : List (List ℕ) → Instr → Result Instr CompileError → Type 0
LinksTo constants instr (Ok i) = i ≡ instr
LinksTo constants instr (Err ProgramTooLarge) = FitNowhere constants (instr ∷ [])
LinksTo constants instr (Err NoMemory) = Unit {0}

abbrev pub Links : Statement → Instr → Result Instr CompileError → Type 0
Links statement instr result = LinksTo (constants_of statement) instr result

-- the code of statements
abbrev pub LinksAll : List Statement → List Instr → Result (Vec Instr) CompileError → Type 0
LinksAll statements code (Ok v) = v.items ≡ code
LinksAll statements code (Err ProgramTooLarge) = FitNowhere (named_in constants_of statements) code
LinksAll statements code (Err NoMemory) = Unit {0}

-- the code, the maps and the jump tables of a program, or none where that is no program
abbrev pub LinksTables : List Statement → Program → Result (Vec Instr × List (List Entry) × List (List ℕ)) CompileError
    → Type 0
LinksTables statements P (Ok x) = (x.0.items ≡ P.code) × (x.1 ≡ P.maps) × (x.2 ≡ P.jumps)
LinksTables statements P (Err ProgramTooLarge) = are_whole statements ≡ true → IsProgram P → ⊥
LinksTables statements P (Err NoMemory) = Unit {0}

-- the parts of the program of all statements, or none where that is no program
abbrev pub Assembles : List Statement → Program → Result Parts CompileError → Type 0
Assembles statements P (Ok parts) = (are_whole statements ≡ true) × (program_of parts ≡ P)
Assembles statements P (Err ProgramTooLarge) = are_whole statements ≡ true → IsProgram P → ⊥
Assembles statements P (Err NoMemory) = Unit {0}
