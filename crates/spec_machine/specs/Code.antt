-- The program of a pair of schemas: X(0, 0) and HALT, then the routines in the order in which they were first called
-- for. This project's own.
use Rattle.std.specs.Prelude.{ℕ, zero, suc, ◌+◌, Bool, true, false, ◌&&◌, List, [], ◌∷◌, ◌++◌, length, Option, Some, None, if◌then◌else◌, slice_get}
use Rattle.spec_avro.specs.Node.{Node}
use Rattle.spec_avro.specs.Options.{given}
use Rattle.spec_machine.specs.declared.limits.TheConstants.{MOST_INSTRS}
use Rattle.spec_machine.specs.Judging.{is_within_limits}
use Rattle.spec_machine.specs.Program.{Program}
use Rattle.spec_machine.specs.Statements.{Statement, Lost, Section, Main}
use Rattle.spec_machine.specs.Numbering.{adding, calls_of, named_in, numbered, same_section}
use Rattle.spec_machine.specs.Writing.{section}

abbrev pub is_lost : Statement → Bool
is_lost Lost = true
is_lost _ = false

abbrev pub are_whole : List Statement → Bool
are_whole [] = true
are_whole (statement ∷ statements) = if is_lost statement then false else are_whole statements

-- the program of these statements, unless one is lost or a limit is passed
abbrev pub checked : List Statement → Program → Option Program
checked statements P = if are_whole statements && is_within_limits P then Some P else None

module _ (section : Section → List Statement) where
  -- the sections that are called for, from section i on; none where n rounds do not find all
  abbrev pub reached : ℕ → ℕ → List Section → Option (List Section)
  reached zero i sections = given (slice_get sections i) (Some sections) (λ s. None)
  reached (suc n) i sections =
      elim (slice_get sections i) [
        | None ↦ Some sections
        | Some s ↦ reached n (i + 1) (adding same_section sections (named_in calls_of (section s)))
      ]

  abbrev pub statements_of : List Section → List Statement
  statements_of [] = []
  statements_of (s ∷ sections) = section s ++ statements_of sections

  -- where a section begins
  abbrev pub start_in : ℕ → List Section → Section → ℕ
  start_in pc [] s = pc
  start_in pc (x ∷ sections) s = if same_section s x then pc else start_in (pc + length (section x)) sections s

  -- the program of these sections, unless it passes a limit
  abbrev pub of_sections : List Section → Option Program
  of_sections sections = checked (statements_of sections) (numbered (start_in 0 sections) (statements_of sections))

  abbrev pub assembled : Option (List Section) → Option Program
  assembled None = None
  assembled (Some sections) = of_sections sections

-- None where a limit is passed.
unfoldable pub code_of : List Node → List Node → Option Program
code_of W R = assembled (section W R) (reached (section W R) MOST_INSTRS 0 (Main ∷ []))
