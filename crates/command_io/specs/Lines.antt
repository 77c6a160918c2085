-- The lines of an input. This project's own.
use Rattle.std.specs.Prelude.{◌≡◌, ◌⊎◌, ℕ, List, [], ◌∷◌, ◌++◌}

-- the first line, ended by an LF or by the last byte, and what follows it
abbrev pub IsFirst : List ℕ → List ℕ → List ℕ → Type 0
IsFirst bytes line later = (bytes ≡ line ++ 10 ∷ later) ⊎ ((bytes ≡ line) × (later ≡ []))
