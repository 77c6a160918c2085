-- What known bytes are where a write was broken off. This project's own.
use Rattle.std.specs.Prelude.{◌≡◌, ℕ, List, ◌++◌, ⊤, Option, Some, None}

-- known bytes grew by a beginning of these
abbrev pub Begins : Option (List ℕ) → Option (List ℕ) → List ℕ → Type 0
Begins None new all = ⊤
Begins (Some old) None all = ⊥
Begins (Some old) (Some new) all = (front : List ℕ) × (rest : List ℕ) × (all ≡ front ++ rest) × (new ≡ old ++ front)
