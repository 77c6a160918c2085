-- Reading one word after the other, as a loop does.
use Rattle.std.proofs.Common.{◌≡◌, ℕ, List, [], ◌∷◌, ◌++◌, Option, Some, None, refl, sym, ap, ◌∙◌, append_assoc}
use Rattle.std.proofs.lemmas.List.{append-nil}
use Rattle.spec_machine.specs.ListingParts.{◌>>=◌, each_in}

-- what was read before, and what is still read
abbrev pub with_front : {A : Type 0} → List A → Option (List A) → Option (List A)
with_front front read = read >>= λ xs. Some (front ++ xs)

module _ {A : Type 0} (said : List ℕ → Option A) where
  regroup : (front : List A) (x : A) (others : Option (List A)) → with_front front (others >>= λ xs. Some (x ∷ xs)) ≡ with_front (front ++ x ∷ []) others
  regroup front x (Some xs) = ap (λ (ys : List A). Some ys) (simp append_assoc)
  regroup front x None = refl

  module _ (front : List A) (ws : List (List ℕ)) (total : Option (List A)) (so_far : with_front front (each_in said ws) ≡ total) where
    pub word_read : (w : List ℕ) (more : List (List ℕ)) (x : A) → ws ≡ w ∷ more → said w ≡ Some x → with_front (front ++ x ∷ []) (each_in said more) ≡ total
    unfolding each_in
    word_read w more x e h =
        sym (regroup front x (each_in said more))
        ∙ ap (λ (o : Option A). with_front front (o >>= λ x. each_in said more >>= λ xs. Some (x ∷ xs))) (sym h)
        ∙ ap (λ (vs : List (List ℕ)). with_front front (each_in said vs)) (sym e)
        ∙ so_far

    pub word_fails : (w : List ℕ) (more : List (List ℕ)) → ws ≡ w ∷ more → said w ≡ None → total ≡ None
    unfolding each_in
    word_fails w more e h =
        sym so_far ∙ ap (λ (vs : List (List ℕ)). with_front front (each_in said vs)) e
        ∙ ap (λ (o : Option A). with_front front (o >>= λ x. each_in said more >>= λ xs. Some (x ∷ xs))) h

    pub words_read : ws ≡ [] → total ≡ Some front
    unfolding each_in
    words_read e = sym so_far ∙ ap (λ (vs : List (List ℕ)). with_front front (each_in said vs)) e ∙ ap (λ (ys : List A). Some ys) (append-nil front)
