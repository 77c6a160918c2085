-- Where a text is split at its last dot.
use Rattle.std.proofs.Common.{◌≡◌, ◌≢◌, ℕ, zero, suc, ◌+◌, ◌-◌, ◌<◌, ◌≤◌, Bool, true, false, eqb, not, List, [], ◌∷◌, ◌++◌, length, length-append, drop, take, get_or, None, refl, sym, ap, ◌∙◌, arith}
use Rattle.std.specs.List.{suffix_len}
use Rattle.std.specs.Str.Pattern.{RFindsChar, SplitsAroundMatch, HasCharAt}
use Rattle.std.proofs.Math.Seq.{take-append_seam, drop-append-add, drop-cons}
use Rattle.std.proofs.lemmas.Bool.Decides.{nat_tests}
use Rattle.std.proofs.lemmas.List.{get_or-append-add, take-append-drop}
use Rattle.std.proofs.lemmas.List.Sums.{suffix_len_is}
use Rattle.std.proofs.lemmas.Str.{len_utf8_ascii}
use Rattle.std.proofs.lemmas.Str.Pattern.{NoCharPasses-char}
use Rattle.spec_avro.specs.FullNames.{has_dot, inside, is_dot, namespace_of, unqualified}
use Rattle.avro_types.specs.Laws.Booleans.{neither, or_true}

-- ---- texts without dots

pub undotted-by : (s : List ℕ) → ((k : ℕ) → k < length s → get_or s k 0 ≢ 46) → has_dot s ≡ false
undotted-by [] h = refl
undotted-by (c ∷ cs) h =
    let first : c ≢ 46 = h 0 (omega arith) in
    let no : eqb c 46 ≡ false = grind (arith, nat_tests) in
    rw no (undotted-by cs (λ k lt. h (suc k) (omega arith)))

pub undotted-at : (s : List ℕ) → has_dot s ≡ false → (k : ℕ) → k < length s → get_or s k 0 ≢ 46
undotted-at [] h k lt e = absurd (omega arith)
undotted-at (c ∷ cs) h zero lt e = let no : eqb c 46 ≡ false = (neither (eqb c 46) (has_dot cs) h).0 in grind (arith, nat_tests)
undotted-at (c ∷ cs) h (suc k) lt e = undotted-at cs (neither (eqb c 46) (has_dot cs) h).1 k (omega arith) e

pub dotted-behind : (front back : List ℕ) → has_dot (front ++ 46 ∷ back) ≡ true
dotted-behind [] back = refl
dotted-behind (c ∷ cs) back = rw (dotted-behind cs back) (or_true (is_dot c))

-- ---- where the last part begins

begins : (s : List ℕ) (j : ℕ) → j ≤ length s → ((k : ℕ) → j ≤ k → k < length s → get_or s k 0 ≢ 46) → (0 < j → get_or s (j - 1) 0 ≡ 46) → length s - suffix_len (λ c. not (eqb c 46)) s ≡ j
begins s j within no_dots dot =
    let p : ℕ → Bool = λ c. not (eqb c 46) in
    let tail = suffix_len_is p s j 0 within (λ k le lt. let h : get_or s k 0 ≢ 46 = no_dots k le lt in grind (arith, nat_tests)) (λ pos. let h : get_or s (j - 1) 0 ≡ 46 = dot pos in rw h refl) in
    omega arith

alone : (last : List ℕ) → has_dot last ≡ false → length last - suffix_len (λ c. not (eqb c 46)) last ≡ 0
alone last none = begins last 0 (omega arith) (λ k le lt. undotted-at last none k lt) (λ pos. absurd (omega arith))

behind : (front last : List ℕ) → has_dot last ≡ false → length (front ++ 46 ∷ last) - suffix_len (λ c. not (eqb c 46)) (front ++ 46 ∷ last) ≡ length front + 1
behind front last none =
    let len : length (front ++ 46 ∷ last) ≡ length front + length (46 ∷ last) = length-append front (46 ∷ last) in
    begins (front ++ 46 ∷ last) (length front + 1) (omega (arith, len))
    (λ k le lt e. undotted-at last none (k - length front - 1) (omega (arith, len)) (sym (get_or-append-add front (46 ∷ last) (suc (k - length front - 1)) 0) ∙ ap (λ n. get_or (front ++ 46 ∷ last) n 0) (omega arith) ∙ e))
    (λ pos. ap (λ n. get_or (front ++ 46 ∷ last) n 0) (let n : length front + 1 - 1 ≡ length front + 0 = omega arith in n) ∙ get_or-append-add front (46 ∷ last) 0 0)

-- ---- the two parts of a full name

pub namespace-inside : (namespace last : List ℕ) → has_dot last ≡ false → namespace_of (inside namespace last) ≡ namespace
namespace-inside [] last none = ap (λ n. take n last) (let z : length last - suffix_len (λ c. not (eqb c 46)) last - 1 ≡ 0 = omega (arith, alone last none) in z)
namespace-inside (c ∷ cs) last none =
    let front = c ∷ cs in
    ap (λ n. take n (front ++ 46 ∷ last)) (let z : length (front ++ 46 ∷ last) - suffix_len (λ c. not (eqb c 46)) (front ++ 46 ∷ last) - 1 ≡ length front = omega (arith, behind front last none) in z)
    ∙ take-append_seam front (46 ∷ last)

pub unqualified-behind : (front last : List ℕ) → has_dot last ≡ false → unqualified (front ++ 46 ∷ last) ≡ last
unqualified-behind front last none =
    ap (λ n. drop n (front ++ 46 ∷ last)) (behind front last none) ∙ drop-append-add front (46 ∷ last) 1

pub unqualified-inside : (namespace last : List ℕ) → has_dot last ≡ false → unqualified (inside namespace last) ≡ last
unqualified-inside [] last none = ap (λ n. drop n last) (alone last none)
unqualified-inside (c ∷ cs) last none = unqualified-behind (c ∷ cs) last none

-- ---- what a search from the end finds

pub none-undotted : (s : List ℕ) → RFindsChar 46 s None → has_dot s ≡ false
none-undotted s none = undotted-by s (λ k lt. NoCharPasses-char 46 s k none (omega arith) lt)

module _ (s front back : List ℕ) (h : SplitsAroundMatch (RFindsChar 46) s front back) where
  pub back-undotted : has_dot back ≡ false
  back-undotted = ap has_dot h.4 ∙ undotted-by (drop h.1 s) (λ k lt. NoCharPasses-char 46 (drop h.1 s) k h.2.0 (omega arith) lt)

  pub split-parts : s ≡ front ++ 46 ∷ back
  split-parts =
      let i = h.0 in
      let at : HasCharAt 46 s h.0 h.1 = h.2.1 in
      let next : h.1 ≡ suc i = omega (arith, at.ends, len_utf8_ascii 46 (omega arith)) in
      let lt : i < length s = omega (arith, h.7, next) in
      sym (take-append-drop i s) ∙ ap (λ xs. xs ++ drop i s) (sym h.3) ∙ ap (λ xs. front ++ xs) (drop-cons s i 0 lt ∙ rw (let here : get_or s i 0 ≡ 46 = at.byte (omega arith) in here) (ap (λ xs. 46 ∷ xs) (ap (λ n. drop n s) (sym next) ∙ sym h.4)))
