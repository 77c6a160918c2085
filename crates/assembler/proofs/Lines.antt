-- One line more comes after the others.
use Rattle.std.proofs.Common.{◌≡◌, ℕ, zero, suc, ◌+◌, List, [], ◌∷◌, ◌++◌, take, Some, sym, ap, ◌∙◌, append_assoc, add-one, arith, slice_get}
use Rattle.std.proofs.lemmas.List.{append-nil}
use Rattle.spec_machine.specs.Listing.{lines, lines_from}

module _ {A : Type 0} (line : ℕ → A → List ℕ) where
  taken : (k i : ℕ) (xs : List A) (x : A) → slice_get xs i ≡ Some x → lines_from line k (take (suc i) xs) ≡ lines_from line k (take i xs) ++ line (i + k) x
  taken k i [] x e = absurd cc
  taken k zero (y ∷ xs) x e =
      let same : y ≡ x = cc in
      let at : 0 + k ≡ k = omega arith in
      append-nil (line k y) ∙ ap (line k) same ∙ ap (λ n. line n x) (sym at)
  taken k (suc i) (y ∷ xs) x e =
      let at : i + suc k ≡ suc i + k = omega arith in
      ap (λ (t : List ℕ). line k y ++ t) (taken (suc k) i xs x e ∙ ap (λ n. lines_from line (suc k) (take i xs) ++ line n x) at)
      ∙ sym (append_assoc (line k y) (lines_from line (suc k) (take i xs)) (line (suc i + k) x))

  pub one_more : (start out : List ℕ) (i : ℕ) (xs : List A) (x : A) → slice_get xs i ≡ Some x → out ≡ start ++ lines line (take i xs)
      → out ++ line i x ≡ start ++ lines line (take (i + 1) xs)
  one_more start out i xs x e so_far =
      let at : i + 0 ≡ i = omega arith in
      ap (λ (t : List ℕ). t ++ line i x) so_far
      ∙ append_assoc start (lines line (take i xs)) (line i x)
      ∙ ap (λ n. start ++ (lines line (take i xs) ++ line n x)) (sym at)
      ∙ ap (λ (t : List ℕ). start ++ t) (sym (taken 0 i xs x e))
      ∙ ap (λ (k : ℕ). start ++ lines line (take k xs)) (sym (add-one i))
