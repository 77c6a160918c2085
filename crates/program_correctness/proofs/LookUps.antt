-- What is at an index of a list.
use Rattle.std.proofs.Common.{◌≡◌, ℕ, zero, suc, ◌<◌, List, [], ◌∷◌, length, Some, arith, slice_get}
use Rattle.std.specs.Prelude.{slice_index_or}

pub got : {A : Type 0} (xs : List A) (n : ℕ) (default a : A) → slice_get xs n ≡ Some a → slice_index_or xs n default ≡ a
got [] n default a e = absurd cc
got (x ∷ xs) zero default a e = cc
got (x ∷ xs) (suc n) default a e = got xs n default a e

pub got_below : {A : Type 0} (xs : List A) (n : ℕ) (a : A) → slice_get xs n ≡ Some a → n < length xs
got_below [] n a e = absurd cc
got_below (x ∷ xs) zero a e = omega arith
got_below (x ∷ xs) (suc n) a e = omega (arith, got_below xs n a e)
