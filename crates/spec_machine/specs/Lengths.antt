-- How many items lists have together. All of this is this project's own.
use Rattle.std.specs.Prelude.{ℕ, ◌+◌, List, [], ◌∷◌, length}

-- how many items all of them have, those that they share counted each time
abbrev pub total_length : {A : Type 0} → List (List A) → ℕ
total_length [] = 0
total_length (list ∷ lists) = length list + total_length lists
