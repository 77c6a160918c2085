-- Plain facts that several proofs need.
use Rattle.std.proofs.Common.{List, [], ◌∷◌, ◌≡◌, Bool, true, false, ◌&&◌, refl, ◌≤◌, ℕ, arith, ◌<◌}
use Rattle.std.specs.List.{AllByRecursion}
use Rattle.std.specs.Prelude.{nat_lt}

pub weaker : {A : Type 0} (Q F : A → Type 0) → ((x : A) → Q x → F x) → (xs : List A) → AllByRecursion Q xs → AllByRecursion F xs
weaker Q F implies [] h = tt
weaker Q F implies (x ∷ xs) h = (implies x h.0, weaker Q F implies xs h.1)

pub both : (a b : Bool) → (a && b) ≡ true → (a ≡ true) × (b ≡ true)
both true b e = (refl, e)
both false b e = absurd cc

pub not-below : (a b : ℕ) → b ≤ a → nat_lt a b ≡ false
not-below a b le = grind (arith, le)

pub below-nat : (a b : ℕ) → a < b → nat_lt a b ≡ true
below-nat a b lt = grind (arith, lt)
