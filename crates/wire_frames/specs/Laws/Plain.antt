-- Plain facts that several proofs need.
use Rattle.std.proofs.Common.{◌≡◌, ℕ, ◌≤◌, List, length, take, drop, sym, ap, ◌∙◌}
use Rattle.std.proofs.lemmas.List.{take-append-drop, take-append-le}

-- the first bytes of the first bytes
pub take_take : (n m : ℕ) (xs : List ℕ) → n ≤ length (take m xs) → take n (take m xs) ≡ take n xs
take_take n m xs few =
    sym (ap (λ (z : List ℕ). take n z) (sym (take-append-drop m xs)) ∙ take-append-le n (take m xs) (drop m xs) few)
