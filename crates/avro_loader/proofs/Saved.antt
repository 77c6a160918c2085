-- One thing more is put after the others.
use Rattle.std.proofs.Common.{◌≡◌, ℕ, zero, suc, ◌+◌, List, [], ◌∷◌, ◌++◌, take, sym, ap, ◌∙◌, append_assoc, Some, add-one, slice_get}
use Rattle.std.proofs.lemmas.List.{append-nil}
use Rattle.std.proofs.lemmas.List.Concat.{flat_map-cons}
use Rattle.std.specs.List.{flat_map}

module _ {A : Type 0} (spell : A → List ℕ) where
  taken : (i : ℕ) (xs : List A) (x : A) → slice_get xs i ≡ Some x → flat_map spell (take (suc i) xs) ≡ flat_map spell (take i xs) ++ spell x
  taken i [] x e = absurd cc
  taken zero (y ∷ xs) x e =
      let same : y ≡ x = cc in
      flat_map-cons spell y [] ∙ append-nil (spell y) ∙ ap spell same
  taken (suc i) (y ∷ xs) x e =
      flat_map-cons spell y (take (suc i) xs) ∙ ap (λ (t : List ℕ). spell y ++ t) (taken i xs x e)
      ∙ sym (append_assoc (spell y) (flat_map spell (take i xs)) (spell x))
      ∙ ap (λ (t : List ℕ). t ++ spell x) (sym (flat_map-cons spell y (take i xs)))

  pub one_more : (start head out : List ℕ) (i : ℕ) (xs : List A) (x : A) → slice_get xs i ≡ Some x → out ≡ start ++ (head ++ flat_map spell (take i xs))
      → out ++ spell x ≡ start ++ (head ++ flat_map spell (take (i + 1) xs))
  one_more start head out i xs x e so_far =
      ap (λ (t : List ℕ). t ++ spell x) so_far
      ∙ append_assoc start (head ++ flat_map spell (take i xs)) (spell x)
      ∙ ap (λ (t : List ℕ). start ++ t) (append_assoc head (flat_map spell (take i xs)) (spell x))
      ∙ ap (λ (t : List ℕ). start ++ (head ++ t)) (sym (taken i xs x e))
      ∙ ap (λ (k : ℕ). start ++ (head ++ flat_map spell (take k xs))) (sym (add-one i))
