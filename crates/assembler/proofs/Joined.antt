-- The parts of a text, put together again.
use Rattle.std.proofs.Common.{◌≡◌, ℕ, ◌<◌, nat_eq, cond, Bool, true, false, List, [], ◌∷◌, ◌++◌, length, refl, sym, ap, ◌∙◌, arith}
use Rattle.std.proofs.lemmas.Bool.{eqb-true}
use Rattle.spec_machine.specs.ListingWords.{in_front, parts}
use Rattle.assembler.proofs.Parts.{some}

module _ (s : ℕ) where
  -- parts, each after a separator
  abbrev pub after : List (List ℕ) → List ℕ
  after [] = []
  after (part ∷ others) = s ∷ (part ++ after others)

  abbrev pub joined : List (List ℕ) → List ℕ
  joined [] = []
  joined (part ∷ others) = part ++ after others

  front : (b : ℕ) (ps : List (List ℕ)) → joined (in_front b ps) ≡ b ∷ joined ps
  unfolding in_front
  front b [] = refl
  front b (p ∷ ps) = refl

  step : (b : ℕ) (rest : List ℕ) (ps : List (List ℕ)) (t : Bool) → nat_eq b s ≡ t → 0 < length ps → joined ps ≡ rest → joined (cond t ([] ∷ ps) (in_front b ps)) ≡ b ∷ rest
  step b rest [] true e h so = absurd (omega arith)
  step b rest (p ∷ ps) true e h so = ap (λ (t : List ℕ). s ∷ t) so ∙ ap (λ (n : ℕ). n ∷ rest) (sym (eqb-true b s e))
  step b rest ps false e h so = front b ps ∙ ap (λ (t : List ℕ). b ∷ t) so

  pub joined_parts : (text : List ℕ) → joined (parts s text) ≡ text
  unfolding parts
  joined_parts [] = refl
  joined_parts (b ∷ rest) = step b rest (parts s rest) (nat_eq b s) refl (some s rest) (joined_parts rest)
