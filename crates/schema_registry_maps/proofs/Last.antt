-- The last of some ids.
use Rattle.std.proofs.Common.{◌≡◌, ◌<◌, ℕ, suc, ◌-◌, List, [], ◌∷◌, length, take, drop, refl, arith}
use Rattle.spec_registry.specs.Comparing.{last_of}

last-drop : {A : Type 0} (x : A) (xs : List A) → drop (length xs) (x ∷ xs) ≡ last_of (x ∷ xs)
last-drop x [] = refl
last-drop x (y ∷ ys) = last-drop y ys

take-last : {A : Type 0} (x : A) (xs : List A) → take 1 (last_of (x ∷ xs)) ≡ last_of (x ∷ xs)
take-last x [] = refl
take-last x (y ∷ ys) = take-last y ys

pub last-range : (xs : List ℕ) → 0 < length xs → take (length xs - (length xs - 1)) (drop (length xs - 1) xs) ≡ last_of xs
last-range [] lt = absurd (omega arith)
last-range (x ∷ xs) lt =
    let e : suc (length xs) - 1 ≡ length xs = omega arith in
    let one : suc (length xs) - length xs ≡ 1 = omega arith in
    rw (e, one, last-drop x xs) (take-last x xs)
