-- The position of a text among others that are distinct.
use Rattle.std.proofs.Common.{◌≡◌, ℕ, zero, suc, ◌+◌, List, [], ◌∷◌, false, Some, ap, subst, ◌∙◌, arith, slice_get}
use Rattle.std.specs.List.{AllByRecursion, IsDistinct, position_from}
use Rattle.std.specs.Str.{bytes_eq}
use Rattle.std.proofs.lemmas.Slice.Eq.{bytes_eq-Decides}
use Rattle.avro_types.specs.Laws.Booleans.{none_some, some_inside}
use Rattle.spec_avro.specs.Symbols.{place_of}

all_at : (P : List ℕ → Type 0) (ss : List (List ℕ)) (n : ℕ) (s : List ℕ) → AllByRecursion P ss → slice_get ss n ≡ Some s → P s
all_at P [] n s h e = absurd (none_some s e)
all_at P (x ∷ ss) zero s h e = subst P (some_inside x s e) h.0
all_at P (x ∷ ss) (suc n) s h e = all_at P ss n s h.1 e

place_is : (i : ℕ) (ss : List (List ℕ)) (n : ℕ) (s : List ℕ) → IsDistinct bytes_eq ss → slice_get ss n ≡ Some s → position_from (λ o. bytes_eq o s) i ss ≡ Some (i + n)
unfolding IsDistinct
place_is i [] n s d e = absurd (none_some s e)
place_is i (x ∷ ss) zero s d e = rw ((bytes_eq-Decides x s).1 (some_inside x s e)) (ap Some (let z : i ≡ i + 0 = omega arith in z))
place_is i (x ∷ ss) (suc n) s d e = rw (all_at (λ y. bytes_eq x y ≡ false) ss n s d.0 e) (place_is (i + 1) ss n s d.1 e ∙ ap Some (let z : i + 1 + n ≡ i + suc n = omega arith in z))

pub place_at : (ss : List (List ℕ)) (n : ℕ) (s : List ℕ) → IsDistinct bytes_eq ss → slice_get ss n ≡ Some s → place_of s ss ≡ Some n
place_at ss n s d e = place_is 0 ss n s d e ∙ ap Some (let z : 0 + n ≡ n = omega arith in z)
