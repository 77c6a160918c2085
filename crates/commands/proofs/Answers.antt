-- Answers to lines, one after the other.
use Rattle.std.proofs.Common.{◌≡◌, ℕ, List, [], ◌∷◌, ◌++◌, refl, sym, ap, ◌∙◌, append_assoc, append-nil, subst}
use Rattle.spec_avro.specs.Node.{Node}
use Rattle.spec_lines.specs.Answer.{AreAnswers, IsAnswer}

-- what is an answer to a line
module _ (Answers : List ℕ → List ℕ → Type 0) where
  pub no_answers : AreAnswers Answers [] []
  unfolding AreAnswers
  no_answers = refl

  pub one_more : (line : List ℕ) (later : List (List ℕ)) (answer rest : List ℕ) → Answers line answer
      → AreAnswers Answers later rest → AreAnswers Answers (line ∷ later) (answer ++ 10 ∷ rest)
  unfolding AreAnswers
  one_more line later answer rest here there = (answer, rest, here, there, refl)

  -- with `done` written, what is answered so far goes before the answers of the lines that are left
  abbrev pub Continues : List (List ℕ) → List (List ℕ) → List ℕ → Type 0
  Continues whole left done = (more : List ℕ) → AreAnswers Answers left more → AreAnswers Answers whole (done ++ more)

  pub continues_none : (whole : List (List ℕ)) (done : List ℕ) → done ≡ [] → Continues whole whole done
  continues_none whole done e = λ more is. rw e is

  pub continues_one : (whole left later : List (List ℕ)) (line done answer written ended : List ℕ) → left ≡ line ∷ later
      → Continues whole left done → Answers line answer → written ≡ done ++ answer → ended ≡ written ++ 10 ∷ []
      → Continues whole later ended
  continues_one whole left later line done answer written ended split so_far here put end = λ more is.
      let now : AreAnswers Answers left (answer ++ 10 ∷ more) = rw split (one_more line later answer more here is) in
      let joined : done ++ (answer ++ 10 ∷ more) ≡ ended ++ more =
      sym (ap (λ t. t ++ more) (end ∙ ap (λ t. t ++ 10 ∷ []) put) ∙ append_assoc (done ++ answer) (10 ∷ []) more ∙ append_assoc done answer (10 ∷ more)) in
      rw joined at (so_far (answer ++ 10 ∷ more) now)

  pub continues_all : (whole left : List (List ℕ)) (done : List ℕ) → left ≡ [] → Continues whole left done → AreAnswers Answers whole done
  continues_all whole left done none so_far =
      let nothing : AreAnswers Answers left [] = rw none no_answers in
      rw append-nil at (so_far [] nothing)

-- the same by a pair of schemas that is still the first one
pub continues_by : (W R V S : List Node) (whole left later : List (List ℕ)) (line done answer written ended : List ℕ) → V ≡ W → S ≡ R → left ≡ line ∷ later
    → Continues (IsAnswer W R) whole left done → IsAnswer V S line answer → written ≡ done ++ answer → ended ≡ written ++ 10 ∷ []
    → Continues (IsAnswer W R) whole later ended
continues_by W R V S whole left later line done answer written ended writer reader split so_far here put end =
    let there = subst (λ x. IsAnswer x R line answer) writer (subst (λ x. IsAnswer V x line answer) reader here) in
    continues_one (IsAnswer W R) whole left later line done answer written ended split so_far there put end
