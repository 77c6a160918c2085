-- Answers to lines, one after the other.
use Rattle.std.proofs.Common.{◌≡◌, ℕ, List, [], ◌∷◌, ◌++◌, refl, sym, ap, ◌∙◌, append_assoc, append-nil}
use Rattle.spec_lines.specs.Folding.{AnswersAll}
use Rattle.commands.specs.Folding.{Grows}

module _ {S : Type 0} (Answers : List ℕ → List ℕ → S → S → Type 0) where
  no-answers : (now : S) → AnswersAll Answers [] [] now now
  unfolding AnswersAll
  no-answers now = (refl, refl)

  one-more : (line : List ℕ) (later : List (List ℕ)) (answer rest : List ℕ) (now next end : S) → Answers line answer now next
      → AnswersAll Answers later rest next end → AnswersAll Answers (line ∷ later) (answer ++ rest) now end
  unfolding AnswersAll
  one-more line later answer rest now next end here there = (answer, rest, next, here, there, refl)

  -- with `done` written, what is answered so far goes before the answers of the lines that are left
  abbrev pub Continues : List (List ℕ) → List (List ℕ) → List ℕ → S → S → Type 0
  Continues whole left done start now = (more : List ℕ) (end : S) → AnswersAll Answers left more now end → AnswersAll Answers whole (done ++ more) start end

  pub continues-none : (whole : List (List ℕ)) (done : List ℕ) (start : S) → done ≡ [] → Continues whole whole done start start
  continues-none whole done start e = λ more end is. rw e is

  pub continues-one : (whole left later : List (List ℕ)) (line done ended : List ℕ) (start now next : S) → left ≡ line ∷ later
      → Continues whole left done start now → Grows (λ answer. Answers line answer now next) done ended → Continues whole later ended start next
  continues-one whole left later line done ended start now next split so_far grown = λ more end is.
      let here : AnswersAll Answers left (grown.0 ++ more) now end = rw split (one-more line later grown.0 more now next end grown.1 is) in
      let joined : done ++ (grown.0 ++ more) ≡ ended ++ more = sym (ap (λ t. t ++ more) grown.2 ∙ append_assoc done grown.0 more) in
      rw joined at (so_far (grown.0 ++ more) end here)

  pub continues-all : (whole left : List (List ℕ)) (done : List ℕ) (start now : S) → left ≡ [] → Continues whole left done start now
      → AnswersAll Answers whole done start now
  continues-all whole left done start now none so_far =
      let nothing : AnswersAll Answers left [] now now = rw none (no-answers now) in
      rw append-nil at (so_far [] now nothing)
