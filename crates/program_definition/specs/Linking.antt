-- What the program of a pair is, address by address, and that it is a program. All of this is this project's own.
use Rattle.std.specs.Prelude.{◌≡◌, ℕ, true, List, Some}
use Rattle.spec_avro.specs.Node.{Node}
use Rattle.spec_machine.specs.Program.{Program}
use Rattle.spec_machine.specs.Range.{IsProgram}
use Rattle.spec_machine.specs.Code.{code_of, start_in}
use Rattle.spec_machine.specs.Statements.{Section, Write, Skip}
use Rattle.spec_machine.specs.Numbering.{has, same_section}
use Rattle.program_definition.specs.SkipStands.{SkipRoutine}
use Rattle.program_definition.specs.Stands.{Opening, Routine}
use Rattle.spec_machine.specs.Writing.{section}

-- the section is one of these, and begins at that address
pub record BeginsIn (W R : List Node) (listed : List Section) (s : Section) (a : ℕ) : Type 0 where
  pub is_listed : has same_section s listed ≡ true
  pub at : start_in (section W R) 0 listed s ≡ a

-- X(0, 0) and HALT are at the beginning, and each routine that is called is where its CALL goes.
pub record IsLinked (W R : List Node) (P : Program) : Type 0 where
  pub listed : List Section
  pub opening : Opening W R P (BeginsIn W R listed)
  pub writes : (w r a : ℕ) → BeginsIn W R listed (Write w r) a → Routine W R P (BeginsIn W R listed) a w r
  pub skips : (w a : ℕ) → BeginsIn W R listed (Skip w) a → SkipRoutine W P (BeginsIn W R listed) a w

abbrev pub ProgramIsLinked : List Node → List Node → Type 0
ProgramIsLinked W R = (P : Program) → code_of W R ≡ Some P → IsLinked W R P

-- it is a program, all of whose instructions name what is there
abbrev pub ProgramIsInRange : List Node → List Node → Type 0
ProgramIsInRange W R = (P : Program) → code_of W R ≡ Some P → IsProgram P
