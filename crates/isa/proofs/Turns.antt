-- One list after another.
use Rattle.std.proofs.Common.{arith, ◌≡◌, ℕ, zero, suc, ◌+◌, ◌≤◌, ◌<◌, Bool, true, false, ◌&&◌, List, [], ◌∷◌, length, drop, Some, None, refl, sym, ap, ◌∙◌, slice_get, add-one}
use Rattle.std.specs.Prelude.{nat_le, ◌==◌}
use Rattle.spec_machine.specs.Lengths.{total_length}
use Rattle.spec_machine.specs.Judging.{first_empty_from, first_out, first_out_from, at_list, are_within}

after : {A : Type 0} (xs : List A) (n : ℕ) (x : A) → slice_get xs n ≡ Some x → drop n xs ≡ x ∷ drop (suc n) xs
after [] n x e = absurd cc
after (y ∷ xs) zero x e = let same : y ≡ x = cc in rw same refl
after (y ∷ xs) (suc n) x e = after xs n x e

pub here : {A : Type 0} (xs : List A) (n : ℕ) (x : A) → slice_get xs n ≡ Some x → drop n xs ≡ x ∷ drop (n + 1) xs
here xs n x e = rw (add-one n) (after xs n x e)

not_le : (a b : ℕ) → b < a → nat_le a b ≡ false
not_le a b h = grind arith

is_le : (a b : ℕ) → a ≤ b → nat_le a b ≡ true
is_le a b h = grind arith

-- ---- the first that is out of range

module _ {A : Type 0} (test : A → Bool) (lists : List (List A)) (n : ℕ) (list : List A) (e : slice_get lists n ≡ Some list) where
  pub out_here : (i : ℕ) → first_out test list ≡ Some i → first_out_from test n (drop n lists) ≡ Some (n, i)
  out_here i f = ap (first_out_from test n) (here lists n list e) ∙ ap (λ o. at_list n o (first_out_from test (suc n) (drop (n + 1) lists))) f

  pub out_later : first_out test list ≡ None → first_out_from test n (drop n lists) ≡ first_out_from test (n + 1) (drop (n + 1) lists)
  out_later f = ap (first_out_from test n) (here lists n list e) ∙ ap (λ o. at_list n o (first_out_from test (suc n) (drop (n + 1) lists))) f ∙ ap (λ k. first_out_from test k (drop (n + 1) lists)) (sym (add-one n))

-- ---- the first that is empty, and how long they are

module _ {A : Type 0} (lists : List (List A)) (n : ℕ) (list : List A) (e : slice_get lists n ≡ Some list) where
  pub empty_here : (length list == 0) ≡ true → first_empty_from n (drop n lists) ≡ Some n
  empty_here f = rw (here lists n list e, f) refl

  pub empty_later : (length list == 0) ≡ false → first_empty_from n (drop n lists) ≡ first_empty_from (n + 1) (drop (n + 1) lists)
  empty_later f = rw (here lists n list e, f, add-one n) refl

  pub long_here : (most : ℕ) → most < length list → are_within most (drop n lists) ≡ false
  long_here most long = ap (are_within most) (here lists n list e) ∙ ap (λ b. b && are_within most (drop (n + 1) lists)) (not_le (length list) most long)

  pub short_here : (most : ℕ) → length list ≤ most → are_within most (drop n lists) ≡ are_within most (drop (n + 1) lists)
  short_here most short = ap (are_within most) (here lists n list e) ∙ ap (λ b. b && are_within most (drop (n + 1) lists)) (is_le (length list) most short)

  pub total_here : total_length (drop n lists) ≡ length list + total_length (drop (n + 1) lists)
  total_here = rw (here lists n list e) refl
