-- What is between two quotes.
use Rattle.std.proofs.Common.{◌≡◌, ◌≢◌, ◌++◌, ℕ, List, [], ◌∷◌, Bor, Option, Some, None, MatchOption, option_map, ap, sym, ◌∙◌}
use Rattle.std.proofs.lemmas.List.{append_cancel_right}

-- a text that begins with a quote has one at its beginning
pub begins : (c : ℕ) (text rest : List ℕ) (r : Option (Bor (List ℕ))) → r ≡ None
    → MatchOption r ((rest : List ℕ) → text ≢ c ∷ rest) (λ x. text ≡ c ∷ x.now) → text ≢ c ∷ rest
begins c text rest None e h = h rest
begins c text rest (Some x) e h = absurd (let no : ⊥ = cc in no)

-- what is after the quote at the beginning
pub after_quote : (c : ℕ) (text : List ℕ) (r : Option (Bor (List ℕ))) (x : Bor (List ℕ)) → r ≡ Some x
    → MatchOption r ((rest : List ℕ) → text ≢ c ∷ rest) (λ y. text ≡ c ∷ y.now) → text ≡ c ∷ x.now
after_quote c text None x e h = absurd (let no : ⊥ = cc in no)
after_quote c text (Some y) x e h = let same : y ≡ x = cc in h ∙ ap (λ (b : Bor (List ℕ)). c ∷ b.now) same

-- what is before the quote at the end
pub before_quote : (c : ℕ) (text inner : List ℕ) (r : Option (Bor (List ℕ))) → text ≡ inner ++ (c ∷ [])
    → MatchOption r ((front : List ℕ) → text ≢ front ++ (c ∷ [])) (λ x. text ≡ x.now ++ (c ∷ [])) → option_map (λ t. t.now) r ≡ Some inner
before_quote c text inner None e h = absurd (h inner e)
before_quote c text inner (Some x) e h = ap Some (append_cancel_right x.now inner (c ∷ []) (sym h ∙ e))
