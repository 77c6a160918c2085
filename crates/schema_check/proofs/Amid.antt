-- Whether a pair is among others, and the others with it.
use Rattle.std.proofs.Common.{◌≡◌, Bool, true, false, ◌&&◌, ◌||◌, List, [], ◌∷◌, ◌++◌, refl, sym, ap, ◌∙◌, inl, inr, ◌⊎◌}
use Rattle.std.proofs.lemmas.Bool.{eqb-true, eq-eqb, or_left, or_right}
use Rattle.std.specs.Prelude.{◌==◌, if◌then◌else◌}
use Rattle.resolver.specs.NextPairs.{Among}
use Rattle.schema_check.specs.Pairs.{is_among, is_same_pair, with_one}
use Rattle.spec_avro.specs.Safety.{Pair}
use Rattle.resolver.specs.Laws.Plain.{either}
use Rattle.avro_bytes.specs.Laws.Plain.{both}

-- ---- whether a pair is among others

same_pair : (p q : Pair) → is_same_pair p q ≡ true → p ≡ q
same_pair p q e =
    let b = both (p.0 == q.0) (p.1 == q.1) e in
    let first = eqb-true p.0 q.0 b.0 in
    let second = eqb-true p.1 q.1 b.1 in
    λ i. (first i, second i)

pair_same : (p q : Pair) → p ≡ q → is_same_pair p q ≡ true
pair_same p q e = rw (eq-eqb p.0 q.0 (ap (λ (x : Pair). x.0) e), eq-eqb p.1 q.1 (ap (λ (x : Pair). x.1) e)) refl

pub among_by : (q : Pair) (ps : List Pair) → is_among q ps ≡ true → Among q ps
among_by q [] e = absurd cc
among_by q (p ∷ ps) e = elim (either (is_same_pair q p) (is_among q ps) e) [
  | inl h ↦ inl (same_pair q p h)
  | inr h ↦ inr (among_by q ps h)
]

pub among_there : (q : Pair) (ps : List Pair) → Among q ps → is_among q ps ≡ true
among_there q [] a = absurd a
among_there q (p ∷ ps) (inl e) = or_left (is_same_pair q p) (is_among q ps) (pair_same q p e)
among_there q (p ∷ ps) (inr a) = or_right (is_same_pair q p) (is_among q ps) (among_there q ps a)

pub by_among : (q : Pair) (ps : List Pair) → Among q ps ⊎ (Among q ps → ⊥)
by_among q ps = cases (is_among q ps) refl where
  cases : (b : Bool) → is_among q ps ≡ b → Among q ps ⊎ (Among q ps → ⊥)
  cases true e = inl (among_by q ps e)
  cases false e = inr (λ a. absurd (let clash : true ≡ false = sym (among_there q ps a) ∙ e in cc))

pub one_there : (q : Pair) (ps : List Pair) → Among q ps → with_one ps q ≡ ps
one_there q ps a = rw (among_there q ps a) refl

pub one_new : (q : Pair) (ps : List Pair) → (Among q ps → ⊥) → with_one ps q ≡ ps ++ q ∷ []
one_new q ps none = cases (is_among q ps) refl where
  cases : (b : Bool) → is_among q ps ≡ b → (if b then ps else ps ++ q ∷ []) ≡ ps ++ q ∷ []
  cases true e = absurd (none (among_by q ps e))
  cases false e = refl
