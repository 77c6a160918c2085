-- Plain facts that several proofs need.
use Rattle.std.proofs.Common.{◌≡◌, ◌++◌, map, List, [], ◌∷◌, refl, ap, ℕ, String, Global, string_bytes}

pub map-one : {A B : Type 0} (f : A → B) (xs : List A) (x : A) → map f (xs ++ x ∷ []) ≡ map f xs ++ f x ∷ []
map-one f [] x = refl
map-one f (y ∷ xs) x = ap (λ ys. f y ∷ ys) (map-one f xs x)

abbrev pub names : List (String Global) → List (List ℕ)
names ts = map string_bytes ts
