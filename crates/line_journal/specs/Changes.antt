-- What becomes of a file at rest of which one byte of a gate has changed. This project's own.
use Rattle.std.specs.Prelude.{◌≡◌, ◌≢◌, ◌⊎◌, ℕ, ◌+◌, List, [], ◌∷◌, ◌++◌, length, Ok, Err}
use Rattle.std.specs.List.{flat_map, AllByRecursion}
use Rattle.line_journal.specs.Lines.{Line, IsLine, block, at_rest, lines_in}
use Rattle.line_journal.specs.declared.layout.TheConstants.{OPEN, CLOSED, NEWLINE}

-- one of the two bytes of a gate is another one than it was
abbrev pub IsOneChanged : ℕ → ℕ → ℕ → Type 0
IsOneChanged byte first second = ((first ≢ byte) × (second ≡ byte)) ⊎ ((first ≡ byte) × (second ≢ byte))

-- the file is damaged at the gate after these lines
abbrev pub IsDamagedAfter : List Line → List ℕ → Type 0
IsDamagedAfter lines file = lines_in file ≡ Err (record { at = length (flat_map block lines); line = length lines + 1 })

-- A changed byte of an open gate is damage at that gate; but if its line is the last one the file may read as before.
abbrev pub ChangedOpenGateIsFound : Type 0
ChangedOpenGateIsFound = (before after : List Line) (line : Line) (first second : ℕ)
    → AllByRecursion IsLine before → IsLine line → IsOneChanged OPEN first second
    → (file : List ℕ) → file ≡ flat_map block before ++ first ∷ second ∷ (line ++ NEWLINE ∷ at_rest after)
    → IsDamagedAfter before file ⊎ ((after ≡ []) × (lines_in file ≡ Ok (before ++ line ∷ [])))

-- a changed byte of the closed gate is damage at that gate
abbrev pub ChangedClosedGateIsFound : Type 0
ChangedClosedGateIsFound = (lines : List Line) (first second : ℕ) → AllByRecursion IsLine lines
    → IsOneChanged CLOSED first second
    → IsDamagedAfter lines (flat_map block lines ++ first ∷ second ∷ [])
