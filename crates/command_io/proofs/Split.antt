-- How the first LF splits the lines of an input.
use Rattle.std.proofs.Common.{◌≡◌, ℕ, zero, suc, ◌+◌, ◌<◌, nat_eq, Bool, true, false, List, [], ◌∷◌, ◌++◌, length, take, drop, get_or, refl, ap, add-one, arith}
use Rattle.std.proofs.lemmas.Bool.{eqb-true, false_from_ne_true as not_true}
use Rattle.std.proofs.lemmas.List.{drop_all}
use Rattle.spec_lines.specs.Lines.{lines, in_front}

lines_through : (xs : List ℕ) (k : ℕ) → k < length xs → ((j : ℕ) → j < k → nat_eq (get_or xs j 0) 10 ≡ true → ⊥)
    → nat_eq (get_or xs k 0) 10 ≡ true → lines xs ≡ take k xs ∷ lines (drop (suc k) xs)
unfolding lines in_front
lines_through [] k h before here = absurd (omega arith)
lines_through (x ∷ xs) zero h before here = rw here refl
lines_through (x ∷ xs) (suc k) h before here =
    let other : nat_eq x 10 ≡ false = not_true _ (before 0 (omega arith)) in
    let later = lines_through xs k (omega arith) (λ j l e. before (suc j) (omega arith) e) here in
    rw (other, later) refl

-- the first LF ends the first line
pub lines_split : (xs : List ℕ) (k : ℕ) → k < length xs → ((j : ℕ) → j < k → nat_eq (get_or xs j 0) 10 ≡ true → ⊥)
    → nat_eq (get_or xs k 0) 10 ≡ true → lines xs ≡ take k xs ∷ lines (drop (k + 1) xs)
lines_split xs k h before here = rw add-one (lines_through xs k h before here)

-- bytes without an LF are one line
pub lines_whole : (xs : List ℕ) → 0 < length xs → ((j : ℕ) → j < length xs → nat_eq (get_or xs j 0) 10 ≡ true → ⊥) → lines xs ≡ xs ∷ []
unfolding lines in_front
lines_whole [] h none = absurd (omega arith)
lines_whole (x ∷ []) h none =
    let other : nat_eq x 10 ≡ false = not_true _ (none 0 (omega arith)) in
    rw other refl
lines_whole (x ∷ y ∷ ys) h none =
    let other : nat_eq x 10 ≡ false = not_true _ (none 0 (omega arith)) in
    let later = lines_whole (y ∷ ys) (omega arith) (λ j l e. none (suc j) (omega arith) e) in
    let joined : in_front x (lines (y ∷ ys)) ≡ in_front x ((y ∷ ys) ∷ []) = ap (in_front x) later in
    rw other joined

pub lines_none : lines [] ≡ []
unfolding lines
lines_none = refl

pub lines_empty : (xs : List ℕ) → nat_eq (length xs) 0 ≡ true → lines xs ≡ []
lines_empty [] h = lines_none
lines_empty (x ∷ xs) h = let e = eqb-true (length (x ∷ xs)) 0 h in absurd (omega (arith, e))

-- bytes without an LF, and nothing after them
pub lines_last : (xs : List ℕ) → nat_eq (length xs) 0 ≡ false → ((j : ℕ) → j < length xs → nat_eq (get_or xs j 0) 10 ≡ true → ⊥)
    → (lines xs ≡ xs ∷ lines (drop (length xs) xs)) × (length (drop (length xs) xs) < length xs)
lines_last [] h none = absurd (cc)
lines_last (x ∷ xs) h none =
    let nothing : drop (length xs) xs ≡ [] = drop_all (length xs) xs (omega arith) in
    rw nothing (rw lines_none (lines_whole (x ∷ xs) (omega arith) none), omega arith)

-- ---- where the first line ends

parted : (xs : List ℕ) (k : ℕ) → k < length xs → nat_eq (get_or xs k 0) 10 ≡ true → xs ≡ take k xs ++ 10 ∷ drop (suc k) xs
parted [] k h here = absurd (omega arith)
parted (x ∷ xs) zero h here = ap (λ b. b ∷ xs) (eqb-true x 10 here)
parted (x ∷ xs) (suc k) h here = ap (λ ys. x ∷ ys) (parted xs k (omega arith) here)

pub first_parted : (xs : List ℕ) (k : ℕ) → k < length xs → nat_eq (get_or xs k 0) 10 ≡ true → xs ≡ take k xs ++ 10 ∷ drop (k + 1) xs
first_parted xs k h here = rw add-one (parted xs k h here)
