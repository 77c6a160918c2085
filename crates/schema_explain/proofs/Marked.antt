-- A mark more for a pair more.
use Rattle.std.proofs.Common.{◌≡◌, ℕ, ◌+◌, ◌*◌, ◌<◌, ◌||◌, Bool, true, false, List, [], ◌∷◌, ◌++◌, length, get_or, refl, sym, ap, ◌∙◌, inl, inr, ◌⊎◌, arith}
use Rattle.std.proofs.Math.ListN.{set}
use Rattle.std.proofs.lemmas.List.{get_or-set_same, get_or-set_other, length-set}
use Rattle.std.proofs.lemmas.Bool.{cases_eq, or_left, or_right as or_second}
use Rattle.spec_avro.specs.Safety.{Pair}
use Rattle.resolver.specs.Pairs.{marks}
use Rattle.resolver.proofs.Marks.{all_false, count_set, marks_le, same_place}
use Rattle.schema_explain.specs.Pairs.{is_among, is_same_pair}
use Rattle.resolver.specs.Laws.Plain.{either}

same_itself : (p : Pair) → is_same_pair p p ≡ true
same_itself p = grind arith

or_right : (a : Bool) → (a || true) ≡ true
or_right true = refl
or_right false = refl

-- the last pair is among them
pub among_last : (q : Pair) (ps : List Pair) → is_among q (ps ++ q ∷ []) ≡ true
among_last q [] = ap (λ (b : Bool). b || false) (same_itself q)
among_last q (p ∷ ps) = ap (λ (b : Bool). is_same_pair q p || b) (among_last q ps) ∙ or_right (is_same_pair q p)

-- another is, where it was before
among_other : (p q : Pair) (ps : List Pair) → is_same_pair p q ≡ false → is_among p (ps ++ q ∷ []) ≡ is_among p ps
among_other p q [] e = ap (λ (b : Bool). b || false) e
among_other p q (x ∷ ps) e = ap (λ (b : Bool). is_same_pair p x || b) (among_other p q ps e)

same_pair : (p q : Pair) → is_same_pair p q ≡ true → p ≡ q
same_pair p q e = let first : p.0 ≡ q.0 = grind arith in let second : p.1 ≡ q.1 = grind arith in λ i. (first i, second i)

-- those that were among them still are
pub among_more : (p q : Pair) (ps : List Pair) → is_among p ps ≡ true → is_among p (ps ++ q ∷ []) ≡ true
among_more p q [] e = absurd cc
among_more p q (x ∷ ps) e = elim (either (is_same_pair p x) (is_among p ps) e) [
  | inl same ↦ or_left (is_same_pair p x) (is_among p (ps ++ q ∷ [])) same
  | inr rest ↦ or_second (is_same_pair p x) (is_among p (ps ++ q ∷ [])) (among_more p q ps rest)
]

-- and another is the last
pub one_last : (p q : Pair) (ps : List Pair) → is_among p (ps ++ q ∷ []) ≡ true → (is_among p ps ≡ true) ⊎ (p ≡ q)
one_last p q [] e = elim (either (is_same_pair p q) false e) [ inl same ↦ inr (same_pair p q same) | inr never ↦ absurd cc ]
one_last p q (x ∷ ps) e = elim (either (is_same_pair p x) (is_among p (ps ++ q ∷ [])) e) [
  | inl same ↦ inl (or_left (is_same_pair p x) (is_among p ps) same)
  | inr rest ↦ elim (one_last p q ps rest) [ inl old ↦ inl (or_second (is_same_pair p x) (is_among p ps) old) | inr last ↦ inr last ]
]

pub marked_more : (bs : List Bool) (ps now : List Pair) (readers : ℕ) (q : Pair) → q.1 < readers → q.0 * readers + q.1 < length bs → now ≡ ps ++ q ∷ []
    → ((p : Pair) → p.1 < readers → get_or bs (p.0 * readers + p.1) false ≡ is_among p ps)
    → (p : Pair) → p.1 < readers → get_or (set bs (q.0 * readers + q.1) true) (p.0 * readers + p.1) false ≡ is_among p now
marked_more bs ps now readers q qw room pushed marked p pw = elim (cases_eq (p.0 * readers + p.1) (q.0 * readers + q.1)) [
  | inl e ↦ (let same : p ≡ q = same_place p q readers pw qw e in rw (pushed, same) (get_or-set_same bs (q.0 * readers + q.1) true false room ∙ sym (among_last q ps)))
  | inr ne ↦ rw pushed (get_or-set_other bs (q.0 * readers + q.1) (p.0 * readers + p.1) true false ne ∙ marked p pw ∙ sym (among_other p q ps (differ p q readers ne)))
] where
  clash : (p q : Pair) (readers : ℕ) → is_same_pair p q ≡ true → (p.0 * readers + p.1) ≡ (q.0 * readers + q.1)
  clash p q readers e = grind arith

  by_test : (p q : Pair) (readers : ℕ) (b : Bool) → is_same_pair p q ≡ b → ((p.0 * readers + p.1) ≡ (q.0 * readers + q.1) → ⊥) → b ≡ false
  by_test p q readers true e ne = absurd (ne (clash p q readers e))
  by_test p q readers false e ne = refl

  differ : (p q : Pair) (readers : ℕ) → ((p.0 * readers + p.1) ≡ (q.0 * readers + q.1) → ⊥) → is_same_pair p q ≡ false
  differ p q readers ne = by_test p q readers (is_same_pair p q) refl ne

-- where a mark is not set, there are fewer marks than places
pub marks_lt : (bs : List Bool) (i : ℕ) → i < length bs → get_or bs i false ≡ false → marks bs < length bs
marks_lt bs i lt free = omega (arith, count_set bs i lt free, marks_le (set bs i true), length-set bs i true)

-- where no mark is set, no pair is marked
pub unmarked : (bs : List Bool) → marks bs ≡ 0 → (k : ℕ) → get_or bs k false ≡ false
unmarked bs none k = by_mark (get_or bs k false) refl where
  by_mark : (b : Bool) → get_or bs k false ≡ b → b ≡ false
  by_mark true e = absurd (all_false bs none k e)
  by_mark false e = refl
