-- A search by looks, each of which is followed by an exchange where it found the word that is wanted.
use Rattle.std.proofs.Common.{◌≡◌, ℕ, List, [], ◌∷◌, ◌++◌, ap, ◌∙◌, append_assoc}
use Rattle.session_pool_slots.specs.Views.{FoundWord}
use Rattle.session_pool_slots.specs.Results.{words_of}
use Rattle.session_pool_slots.specs.Known.{Known}

-- a word was found, and then another one
pub found_twice : (u v w : Known) (i first next : ℕ) → v.found ≡ u.found ++ words_of i (first ∷ []) → w.found ≡ v.found ++ words_of i (next ∷ []) → w.found ≡ u.found ++ words_of i (first ∷ next ∷ [])
found_twice u v w i first next e f = f ∙ (ap (λ (l : List FoundWord). l ++ words_of i (next ∷ [])) e ∙ append_assoc u.found (words_of i (first ∷ [])) (words_of i (next ∷ [])))
