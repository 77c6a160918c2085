-- When there is no program. This project's own.
use Rattle.std.specs.Prelude.{◌≡◌, ℕ, true, false, List, [], ◌∷◌, Some, None}
use Rattle.spec_avro.specs.Node.{Node}
use Rattle.spec_machine.specs.Judging.{is_within_limits}
use Rattle.spec_machine.specs.Program.{Program}
use Rattle.spec_machine.specs.Code.{are_whole, code_of, statements_of, reached, start_in}
use Rattle.spec_machine.specs.Statements.{Section, Main}
use Rattle.spec_machine.specs.Numbering.{numbered}
use Rattle.spec_machine.specs.Writing.{section}

-- the program of these sections, whatever its size
abbrev pub whole_program : List Node → List Node → List Section → Program
whole_program W R sections = numbered (start_in (section W R) 0 sections) (statements_of (section W R) sections)

-- this number of rounds finds all sections
abbrev pub AreAll : List Node → List Node → ℕ → List Section → Type 0
AreAll W R rounds sections = reached (section W R) rounds 0 (Main ∷ []) ≡ Some sections

-- Some number of rounds finds all.
abbrev pub SectionsAreFound : List Node → List Node → Type 0
SectionsAreFound W R = (rounds : ℕ) × (sections : List Section) × AreAll W R rounds sections

-- No statement of it is lost.
abbrev pub NoStatementIsLost : List Node → List Node → Type 0
NoStatementIsLost W R = (rounds : ℕ) (sections : List Section) → AreAll W R rounds sections
    → are_whole (statements_of (section W R) sections) ≡ true

-- There is none only where the whole one, however many its sections are, passes a limit.
abbrev pub NoneByLimitsAlone : List Node → List Node → Type 0
NoneByLimitsAlone W R = code_of W R ≡ None → (rounds : ℕ) (sections : List Section) → AreAll W R rounds sections
    → is_within_limits (whole_program W R sections) ≡ false
