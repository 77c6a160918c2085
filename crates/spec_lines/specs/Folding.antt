-- Answers to lines, one after another, each of which may change what the next is answered. All of this is this
-- project's own.
use Rattle.std.specs.Prelude.{◌≡◌, ℕ, List, [], ◌∷◌, ◌++◌}

module _ {S : Type 0} (Answers : List ℕ → List ℕ → S → S → Type 0) where
  -- the answers to lines, joined
  unfoldable pub AnswersAll : List (List ℕ) → List ℕ → S → S → Type 0
  AnswersAll [] output old new = (output ≡ []) × (new ≡ old)
  AnswersAll (line ∷ later) output old new =
      (answer : List ℕ) × (rest : List ℕ) × (next : S) × Answers line answer old next × AnswersAll later rest next new
      × (output ≡ answer ++ rest)
