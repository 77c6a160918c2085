-- Where nothing among the items is out of range, nothing in a list of them is.
use Rattle.std.proofs.Common.{◌≡◌, ◌-◌, ℕ, zero, suc, Bool, true, List, [], ◌∷◌, take, drop, None}
use Rattle.std.specs.List.{AllByRecursion}
use Rattle.isa.specs.declared.lists.Stretch.{Stretch}
use Rattle.isa.specs.Lists.{lists_in}
use Rattle.spec_machine.specs.Judging.{first_out, first_out_in}
use Rattle.isa.proofs.Judged.{all_in, none_out_in}

module _ {A : Type 0} (test : A → Bool) where
  abbrev IsInRange : A → Type 0
  IsInRange x = test x ≡ true

  dropped : (n : ℕ) (xs : List A) → AllByRecursion IsInRange xs → AllByRecursion IsInRange (drop n xs)
  dropped zero xs h = h
  dropped (suc n) [] h = tt
  dropped (suc n) (x ∷ xs) h = dropped n xs h.1

  taken : (n : ℕ) (xs : List A) → AllByRecursion IsInRange xs → AllByRecursion IsInRange (take n xs)
  taken zero xs h = tt
  taken (suc n) [] h = tt
  taken (suc n) (x ∷ xs) h = (h.0, taken n xs h.1)

  in_lists : (items : List A) (ss : List Stretch) → AllByRecursion IsInRange items → AllByRecursion (AllByRecursion IsInRange) (lists_in items ss)
  in_lists items [] h = tt
  in_lists items (s ∷ ss) h = (taken (s.to - s.from) (drop s.from items) (dropped s.from items h), in_lists items ss h)

  pub none_in_lists : (items : List A) (ss : List Stretch) → first_out test items ≡ None → first_out_in test (lists_in items ss) ≡ None
  none_in_lists items ss h = none_out_in test IsInRange (λ x e. e) (λ x e. e) 0 (lists_in items ss) (in_lists items ss (all_in test IsInRange (λ x e. e) (λ x e. e) items h))
