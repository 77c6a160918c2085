-- How the first separator splits a text.
use Rattle.std.proofs.Common.{◌≡◌, ℕ, zero, suc, ◌+◌, ◌<◌, nat_eq, cond, Bool, true, false, List, [], ◌∷◌, length, take, drop, get_or, refl, add-one, arith}
use Rattle.std.proofs.lemmas.List.{drop_all}
use Rattle.spec_machine.specs.ListingWords.{in_front, later, parts, words}
use Rattle.std.proofs.lemmas.Bool.{false_from_ne_true as not_true}

head : (ps : List (List ℕ)) → 0 < length ps → (part : List ℕ) × (others : List (List ℕ)) × (ps ≡ part ∷ others)
head [] h = absurd (omega arith)
head (p ∷ ps) h = (p, ps, refl)

longer : (x : ℕ) (ps : List (List ℕ)) → 0 < length (in_front x ps)
unfolding in_front
longer x [] = omega arith
longer x (p ∷ ps) = omega arith

either : (b : Bool) (x : ℕ) (ps : List (List ℕ)) → 0 < length (cond b ([] ∷ ps) (in_front x ps))
either true x ps = omega arith
either false x ps = longer x ps

module _ (s : ℕ) where
  parts_through : (xs : List ℕ) (k : ℕ) → k < length xs → ((j : ℕ) → j < k → nat_eq (get_or xs j 0) s ≡ true → ⊥)
      → nat_eq (get_or xs k 0) s ≡ true → parts s xs ≡ take k xs ∷ parts s (drop (suc k) xs)
  unfolding parts in_front
  parts_through [] k h before here = absurd (omega arith)
  parts_through (x ∷ xs) zero h before here = rw here refl
  parts_through (x ∷ xs) (suc k) h before here =
      let other : nat_eq x s ≡ false = not_true _ (before 0 (omega arith)) in
      let after = parts_through xs k (omega arith) (λ j l e. before (suc j) (omega arith) e) here in
      rw (other, after) refl

  -- the first separator ends the first part
  pub parts_split : (xs : List ℕ) (k : ℕ) → k < length xs → ((j : ℕ) → j < k → nat_eq (get_or xs j 0) s ≡ true → ⊥)
      → nat_eq (get_or xs k 0) s ≡ true → parts s xs ≡ take k xs ∷ parts s (drop (k + 1) xs)
  parts_split xs k h before here = rw add-one (parts_through xs k h before here)

  -- bytes without one are one part
  pub parts_whole : (xs : List ℕ) → ((j : ℕ) → j < length xs → nat_eq (get_or xs j 0) s ≡ true → ⊥) → parts s xs ≡ xs ∷ []
  unfolding parts in_front
  parts_whole [] none = refl
  parts_whole (x ∷ xs) none =
      let other : nat_eq x s ≡ false = not_true _ (none 0 (omega arith)) in
      let after = parts_whole xs (λ j l e. none (suc j) (omega arith) e) in
      rw (other, after) refl

  pub some : (xs : List ℕ) → 0 < length (parts s xs)
  unfolding parts
  some [] = omega arith
  some (x ∷ xs) = either (nat_eq x s) x (parts s xs)

  -- there is one part at least
  pub parts_some : (xs : List ℕ) → (part : List ℕ) × (others : List (List ℕ)) × (parts s xs ≡ part ∷ others)
  parts_some xs = head (parts s xs) (some xs)

-- the first space ends the first word
through_word : (xs : List ℕ) (k : ℕ) → k < length xs → later (drop k xs) ≡ words (drop (suc k) xs)
unfolding later
through_word [] k h = absurd (omega arith)
through_word (x ∷ xs) zero h = refl
through_word (x ∷ xs) (suc k) h = through_word xs k (omega arith)

pub word_split : (xs : List ℕ) (k : ℕ) → k < length xs → ((j : ℕ) → j < k → nat_eq (get_or xs j 0) 32 ≡ true → ⊥)
    → nat_eq (get_or xs k 0) 32 ≡ true → words xs ≡ take k xs ∷ later (drop k xs)
word_split xs k h before here = rw (through_word xs k h) (parts_through 32 xs k h before here)

nothing_later : later [] ≡ []
unfolding later
nothing_later = refl

pub word_whole : (xs : List ℕ) → ((j : ℕ) → j < length xs → nat_eq (get_or xs j 0) 32 ≡ true → ⊥) → words xs ≡ xs ∷ later (drop (length xs) xs)
word_whole xs none =
    let left : drop (length xs) xs ≡ [] = drop_all (length xs) xs (omega arith) in
    rw (left, nothing_later) (parts_whole 32 xs none)
