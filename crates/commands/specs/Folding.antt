-- Lines that are answered one after another, of which each may change what the next is answered. This project's own.
use Rattle.std.specs.Prelude.{◌≡◌, ℕ, List, ◌++◌}

-- an output has grown by an answer
abbrev pub Grows : (List ℕ → Type 0) → List ℕ → List ℕ → Type 0
Grows IsAnswer old new = (answer : List ℕ) × IsAnswer answer × (new ≡ old ++ answer)
