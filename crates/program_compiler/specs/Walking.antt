-- What the walk over the sections of a pair of schemas leaves. All of this is this project's own.
use Rattle.std.specs.Prelude.{◌≡◌, ℕ, List, length, None, Result, Ok, Err, slice_index_or}
use Rattle.spec_avro.specs.Node.{Node}
use Rattle.spec_avro.specs.Options.{given}
use Rattle.spec_machine.specs.Code.{checked, code_of, start_in}
use Rattle.spec_machine.specs.Statements.{Section}
use Rattle.spec_machine.specs.Numbering.{numbered}
use Rattle.spec_machine.specs.Writing.{section}
use Rattle.program_compiler.specs.declared.error.CompileError.{CompileError}
use Rattle.program_compiler.specs.declared.error.CompileError.TheVariants.{ProgramTooLarge, NoMemory}
use Rattle.program_ir.specs.declared.statements.Statement as rust
use Rattle.program_ir.specs.Statements.{statements_in}
use Rattle.program_ir.specs.Sections.{place}

-- the sections in the order of their first calls, where each begins, and all statements
pub record SectionStatements : Type 0 where
  pub sections : List Section
  pub starts : List ℕ
  pub statements : List rust.Statement

-- where a section begins, or how many statements there are where it is not called for
abbrev pub start_at : SectionStatements → Section → ℕ
start_at l s = given (place s l.sections) (length l.statements) (λ n. slice_index_or l.starts n (length l.statements))

pub record AreSectionStatements (W R : List Node) (l : SectionStatements) : Type 0 where
  pub starts : (s : Section) → start_at l s ≡ start_in (section W R) 0 l.sections s
  pub code : code_of W R ≡ checked (statements_in W R l.statements)
      (numbered (start_in (section W R) 0 l.sections) (statements_in W R l.statements))

-- the walk's answer: an error only where there is no program, or memory ran out
abbrev pub Walks : List Node → List Node → Result SectionStatements CompileError → Type 0
Walks W R (Ok l) = AreSectionStatements W R l
Walks W R (Err ProgramTooLarge) = code_of W R ≡ None
Walks W R (Err NoMemory) = Unit {0}

-- the walk's answer, where it fills in sections, starts and statements
abbrev pub Fills : List Node → List Node → List Section → List ℕ → List rust.Statement → Result (Unit {0}) CompileError
    → Type 0
Fills W R sections starts statements (Ok done) =
    AreSectionStatements W R (record { sections = sections; starts = starts; statements = statements })
Fills W R sections starts statements (Err ProgramTooLarge) = code_of W R ≡ None
Fills W R sections starts statements (Err NoMemory) = Unit {0}
