-- A mark more for a pair more.
use Rattle.std.proofs.Common.{◌≡◌, ℕ, zero, suc, ◌+◌, ◌*◌, ◌/◌, ◌%◌, ◌<◌, ◌≤◌, Bool, true, false, List, [], ◌∷◌, ◌++◌, length, get_or, replicate, refl, sym, ap, ◌∙◌, inl, inr, arith}
use Rattle.std.proofs.Math.ListN.{set}
use Rattle.std.proofs.lemmas.List.{get_or-set_other}
use Rattle.std.proofs.lemmas.Bool.{cases_eq}
use Rattle.std.proofs.Math.Nat.{mul-le-mul_right}
use Rattle.std.proofs.lemmas.Nat.{div-mul-add, mod-mul-add}
use Rattle.resolver.specs.Pairs.{marks}
use Rattle.resolver.specs.NextPairs.{Among}
use Rattle.spec_avro.specs.Safety.{Pair}
use Rattle.resolver.proofs.Closed.{among_more, among_last}

pub count_set : (bs : List Bool) (i : ℕ) → i < length bs → get_or bs i false ≡ false → marks (set bs i true) ≡ marks bs + 1
count_set [] i lt e = absurd (omega arith)
count_set (true ∷ bs) zero lt e = absurd cc
count_set (false ∷ bs) zero lt e = omega arith
count_set (true ∷ bs) (suc i) lt e = let h = count_set bs i (omega arith) e in omega (arith, h)
count_set (false ∷ bs) (suc i) lt e = count_set bs i (omega arith) e

-- within a table of `writers` rows
pub in_table : (writers readers a b : ℕ) → a < writers → b < readers → a * readers + b < writers * readers
in_table writers readers a b la lb = let h : (a + 1) * readers ≤ writers * readers = grind (arith, mul-le-mul_right) in omega (arith, h)

pub same_place : (p q : Pair) (readers : ℕ) → p.1 < readers → q.1 < readers → p.0 * readers + p.1 ≡ q.0 * readers + q.1 → p ≡ q
same_place p q readers a b e =
    let first : p.0 ≡ q.0 = sym (div-mul-add p.0 readers p.1 a) ∙ ap (λ (n : ℕ). n / readers) e ∙ div-mul-add q.0 readers q.1 b in
    let second : p.1 ≡ q.1 = sym (mod-mul-add p.0 readers p.1 a) ∙ ap (λ (n : ℕ). n % readers) e ∙ mod-mul-add q.0 readers q.1 b in
    λ i. (first i, second i)

pub marked_more : (bs : List Bool) (ps now : List Pair) (readers : ℕ) (q : Pair) → q.1 < readers → now ≡ ps ++ q ∷ [] →
    ((p : Pair) → p.1 < readers → get_or bs (p.0 * readers + p.1) false ≡ true → Among p ps) →
    (p : Pair) → p.1 < readers → get_or (set bs (q.0 * readers + q.1) true) (p.0 * readers + p.1) false ≡ true → Among p now
marked_more bs ps now readers q qw pushed marked p pw m = elim (cases_eq (p.0 * readers + p.1) (q.0 * readers + q.1)) [
  | inl e ↦ rw (pushed, same_place p q readers pw qw e) (among_last q ps)
  | inr ne ↦ rw pushed (among_more p ps (q ∷ []) (marked p pw (sym (get_or-set_other bs (q.0 * readers + q.1) (p.0 * readers + p.1) true false ne) ∙ m)))
]

pub all_false : (bs : List Bool) → marks bs ≡ 0 → (k : ℕ) → get_or bs k false ≡ true → ⊥
all_false [] z k e = absurd cc
all_false (true ∷ bs) z zero e = absurd (omega arith)
all_false (false ∷ bs) z zero e = absurd cc
all_false (true ∷ bs) z (suc k) e = absurd (omega arith)
all_false (false ∷ bs) z (suc k) e = all_false bs (omega arith) k e

pub none_marked : (n : ℕ) → marks (replicate n false) ≡ 0
none_marked zero = refl
none_marked (suc n) = none_marked n

pub marks_le : (bs : List Bool) → marks bs ≤ length bs
marks_le [] = omega arith
marks_le (true ∷ bs) = let h = marks_le bs in omega (arith, h)
marks_le (false ∷ bs) = let h = marks_le bs in omega (arith, h)
