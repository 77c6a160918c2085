-- Each pair of a list is marked.
use Rattle.std.proofs.Common.{◌≡◌, ℕ, ◌+◌, ◌*◌, ◌<◌, Bool, true, false, List, [], ◌∷◌, ◌++◌, length, get_or, ap, ◌∙◌, inl, inr}
use Rattle.std.specs.List.{AllByRecursion}
use Rattle.std.proofs.Math.ListN.{set}
use Rattle.std.proofs.lemmas.List.{get_or-set_other, get_or-set_same}
use Rattle.std.proofs.lemmas.Bool.{cases_eq}
use Rattle.resolver.specs.NextPairs.{Among}
use Rattle.spec_avro.specs.Safety.{Pair}

-- each of these is marked
abbrev pub AreListed : List Bool → ℕ → List Pair → Type 0
AreListed bs readers ps = AllByRecursion (λ p. get_or bs (p.0 * readers + p.1) false ≡ true) ps

pub listed_more : (bs : List Bool) (ps : List Pair) (readers : ℕ) (q : Pair) → q.0 * readers + q.1 < length bs → AreListed bs readers ps → AreListed (set bs (q.0 * readers + q.1) true) readers (ps ++ q ∷ [])
listed_more bs [] readers q lt a = (get_or-set_same bs (q.0 * readers + q.1) true false lt, tt)
listed_more bs (p ∷ ps) readers q lt a = (
  elim (cases_eq (p.0 * readers + p.1) (q.0 * readers + q.1)) [
    | inl e ↦ ap (λ (n : ℕ). get_or (set bs (q.0 * readers + q.1) true) n false) e ∙ get_or-set_same bs (q.0 * readers + q.1) true false lt
    | inr ne ↦ get_or-set_other bs (q.0 * readers + q.1) (p.0 * readers + p.1) true false ne ∙ a.0
  ],
  listed_more bs ps readers q lt a.1,
)

pub listed_one : (bs : List Bool) (ps : List Pair) (readers : ℕ) (q : Pair) → AreListed bs readers ps → Among q ps → get_or bs (q.0 * readers + q.1) false ≡ true
listed_one bs [] readers q l a = absurd a
listed_one bs (p ∷ ps) readers q l (inl e) = ap (λ (x : Pair). get_or bs (x.0 * readers + x.1) false) e ∙ l.0
listed_one bs (p ∷ ps) readers q l (inr a) = listed_one bs ps readers q l.1 a
