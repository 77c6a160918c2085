-- What is at each index of a list with one element more, or with one replaced.
use Rattle.std.proofs.Common.{◌≡◌, ◌≢◌, ◌⊎◌, ℕ, zero, suc, List, [], ◌∷◌, ◌++◌, All, Some, length, slice_get, set, get_or, arith}
use Rattle.std.proofs.lemmas.Grind.{common_steps}
use Rattle.std.proofs.lemmas.Option.{slice_get-get_or}

pub snoc_place : {X : Type 0} → (xs : List X) (x y : X) (k : ℕ) → slice_get (xs ++ x ∷ []) k ≡ Some y → (slice_get xs k ≡ Some y) ⊎ ((k ≡ length xs) × (x ≡ y))
snoc_place [] x y zero e = grind (arith, common_steps)
snoc_place [] x y (suc k) e = grind (arith, common_steps)
snoc_place (z ∷ zs) x y zero e = grind (arith, common_steps)
snoc_place (z ∷ zs) x y (suc k) e = grind (arith, common_steps, snoc_place zs x y k e)

pub set_place : {X : Type 0} → (xs : List X) (n : ℕ) (x y : X) (k : ℕ) → slice_get (set xs n x) k ≡ Some y → ((k ≢ n) × (slice_get xs k ≡ Some y)) ⊎ ((k ≡ n) × (x ≡ y))
set_place [] n x y k e = grind (arith, common_steps)
set_place (z ∷ zs) zero x y zero e = grind (arith, common_steps)
set_place (z ∷ zs) zero x y (suc k) e = grind (arith, common_steps)
set_place (z ∷ zs) (suc n) x y zero e = grind (arith, common_steps)
set_place (z ∷ zs) (suc n) x y (suc k) e = grind (arith, common_steps, set_place zs n x y k e)

pub all_places : {X : Type 0} (P : X → Type 0) (xs : List X) → ((k : ℕ) (x : X) → slice_get xs k ≡ Some x → P x) → All P xs
all_places P xs h k d lt = h k (get_or xs k d) (slice_get-get_or xs k d lt)
