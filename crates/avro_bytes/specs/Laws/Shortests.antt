-- The shortest encoding of an int or a long: writing it group by group, that it is one, and that none is shorter.
use Rattle.std.proofs.Common.{◌≡◌, ℕ, zero, suc, ◌+◌, ◌*◌, ◌/◌, ◌%◌, ◌^◌, ◌<◌, ◌≤◌, List, [], ◌∷◌, ◌++◌, refl, sym, ap, ◌∙◌, arith, append_assoc, length, inl, inr, get_or, subst, ℤ}
use Rattle.std.proofs.Math.Nat.{mul-le-mul_right}
use Rattle.std.proofs.Math.Numerals.{sub-one}
use Rattle.std.proofs.Math.Pow.{pow_mono}
use Rattle.std.proofs.lemmas.Bool.{le-ltb, lt-ltb, cases_lt}
use Rattle.std.proofs.lemmas.Nat.{div_below}
use Rattle.spec_avro.specs.Number.{IsChained, IsNumber, Limit, groups_sum, zigzag}
use Rattle.avro_bytes.specs.Shortest.{Extends, FitsLimit}
use Rattle.spec_avro.specs.Shortest.{shortest, shortest_groups}
use Rattle.spec_avro.specs.declared.limits.TheConstants.{LONG_BYTES}
use Rattle.avro_bytes.specs.Laws.Groups.{power-next, scaled}

-- what is written so far, and the groups that are left
pub record SoFar (old out : List ℕ) (n rest : ℕ) : Type 0 where
  pub left : ℕ
  pub small : rest < 2 ^ (7 * (left + 1))
  pub written : out ++ shortest_groups (suc left) rest ≡ old ++ shortest_groups LONG_BYTES n

pub starts : (old : List ℕ) (n : ℕ) → n < 2 ^ 64 → SoFar old old n n
starts old n lt = record { left = 9; small = omega arith; written = refl }

module _ (old out : List ℕ) (n rest : ℕ) (s : SoFar old out n rest) where
  go : (left : ℕ) → s.left ≡ left → 128 ≤ rest → SoFar old (out ++ (rest % 128 + 128) ∷ []) n (rest / 128)
  unfolding shortest_groups
  go zero e le = absurd (let small : rest < 2 ^ (7 * (0 + 1)) = rw e at s.small in omega arith)
  go (suc left) e le =
      let k : suc left + 1 ≡ suc (left + 1) = omega arith in
      let small : rest < 2 ^ (7 * (suc left + 1)) = rw e at s.small in
      let power : 2 ^ (7 * (suc left + 1)) ≡ 128 * 2 ^ (7 * (left + 1)) = ap (λ (j : ℕ). 2 ^ (7 * j)) k ∙ power-next (left + 1) in
      let w : out ++ shortest_groups (suc (suc left)) rest ≡ old ++ shortest_groups LONG_BYTES n = rw e at s.written in
      let one : shortest_groups (suc (suc left)) rest ≡ (rest % 128 + 128) ∷ shortest_groups (suc left) (rest / 128) = rw (le-ltb rest 128 le) refl in
      record {
        left = left;
        small = div_below rest 128 (2 ^ (7 * (left + 1))) (omega arith) (omega (arith, power));
        written = append_assoc out ((rest % 128 + 128) ∷ []) (shortest_groups (suc left) (rest / 128)) ∙ ap (λ (b : List ℕ). out ++ b) (sym one) ∙ w;
      }

  pub goes_on : 128 ≤ rest → SoFar old (out ++ (rest % 128 + 128) ∷ []) n (rest / 128)
  goes_on le = go s.left refl le

  pub ends : rest < 128 → out ++ rest ∷ [] ≡ old ++ shortest_groups LONG_BYTES n
  unfolding shortest_groups
  ends lt =
      let one : shortest_groups (suc s.left) rest ≡ rest ∷ [] = rw (lt-ltb rest 128 lt) refl in
      ap (λ (b : List ℕ). out ++ b) (sym one) ∙ s.written

-- ---- counting the groups instead of writing them

-- the groups so far counted, the last of them too, and those that are left
pub record Counted (n rest len : ℕ) : Type 0 where
  pub left : ℕ
  pub small : rest < 2 ^ (7 * (left + 1))
  pub counted : len + length (shortest_groups (suc left) rest) ≡ length (shortest_groups LONG_BYTES n) + 1

pub counts_from : (n : ℕ) → n < 2 ^ 64 → Counted n n 1
counts_from n lt = record { left = 9; small = omega arith; counted = omega arith }

module _ (n rest len : ℕ) (s : Counted n rest len) where
  count : (left : ℕ) → s.left ≡ left → 128 ≤ rest → Counted n (rest / 128) (len + 1)
  unfolding shortest_groups
  count zero e le = absurd (let small : rest < 2 ^ (7 * (0 + 1)) = rw e at s.small in omega arith)
  count (suc left) e le =
      let k : suc left + 1 ≡ suc (left + 1) = omega arith in
      let small : rest < 2 ^ (7 * (suc left + 1)) = rw e at s.small in
      let power : 2 ^ (7 * (suc left + 1)) ≡ 128 * 2 ^ (7 * (left + 1)) = ap (λ (j : ℕ). 2 ^ (7 * j)) k ∙ power-next (left + 1) in
      let c : len + length (shortest_groups (suc (suc left)) rest) ≡ length (shortest_groups LONG_BYTES n) + 1 = rw e at s.counted in
      let one : shortest_groups (suc (suc left)) rest ≡ (rest % 128 + 128) ∷ shortest_groups (suc left) (rest / 128) = rw (le-ltb rest 128 le) refl in
      record {
        left = left;
        small = div_below rest 128 (2 ^ (7 * (left + 1))) (omega arith) (omega (arith, power));
        counted = omega (arith, c, ap length one);
      }

  pub counts_on : 128 ≤ rest → Counted n (rest / 128) (len + 1)
  counts_on le = count s.left refl le

  pub counts_to : rest < 128 → len ≡ length (shortest_groups LONG_BYTES n)
  unfolding shortest_groups
  counts_to lt =
      let one : shortest_groups (suc s.left) rest ≡ rest ∷ [] = rw (lt-ltb rest 128 lt) refl in
      omega (arith, s.counted, ap length one)

pub length-shortest_groups : (left n : ℕ) → length (shortest_groups left n) ≤ left
unfolding shortest_groups
length-shortest_groups zero n = omega arith
length-shortest_groups (suc left) n =
    elim (cases_lt n 128) [
      | inl small ↦ rw (lt-ltb n 128 small) (omega arith)
      | inr le ↦ rw (le-ltb n 128 le) (omega (arith, length-shortest_groups left (n / 128)))
    ]

-- ---- the groups spell the number

-- of at most `suc left` bytes, where the byte at index `left`, if there is one, is at most `top`
pub record Spelled (left top n : ℕ) (bytes : List ℕ) : Type 0 where
  pub chained : IsChained bytes
  pub short : length bytes ≤ suc left
  pub last : get_or bytes left 0 ≤ top
  pub sum : groups_sum bytes ≡ n

chain : (b : ℕ) (bytes : List ℕ) → 128 ≤ b → IsChained bytes → IsChained (b ∷ bytes)
chain b [] le c = absurd c
chain b (d ∷ bytes) le c = (le, c)

pub shortest_groups-spelled : (left top n : ℕ) → top < 128 → n < (top + 1) * 2 ^ (7 * left) → Spelled left top n (shortest_groups (suc left) n)
unfolding shortest_groups
shortest_groups-spelled zero top n t lt = let small : n < 128 = omega arith in rw (lt-ltb n 128 small) (record { chained = small; short = omega arith; last = omega arith; sum = omega arith })
shortest_groups-spelled (suc left) top n t lt =
    elim (cases_lt n 128) [
      | inl small ↦ rw (lt-ltb n 128 small) (record { chained = small; short = omega arith; last = omega arith; sum = omega arith })
      | inr le ↦ (
          let power : (top + 1) * 2 ^ (7 * suc left) ≡ 128 * ((top + 1) * 2 ^ (7 * left)) = ap (λ (k : ℕ). (top + 1) * k) (power-next left) ∙ scaled (top + 1) (2 ^ (7 * left)) in
          let s = shortest_groups-spelled left top (n / 128) t (div_below n 128 ((top + 1) * 2 ^ (7 * left)) (omega arith) (omega (arith, power))) in
          rw (le-ltb n 128 le) (record { chained = chain (n % 128 + 128) (shortest_groups (suc left) (n / 128)) (omega arith) s.chained; short = omega (arith, s.short); last = s.last; sum = omega (arith, s.sum) }))
    ]

-- room that is not needed changes nothing
same_groups : (a b n : ℕ) → n < 2 ^ (7 * suc a) → n < 2 ^ (7 * suc b) → shortest_groups (suc a) n ≡ shortest_groups (suc b) n
unfolding shortest_groups
same_groups zero zero n p q = refl
same_groups zero (suc b) n p q = let small : n < 128 = omega arith in rw (lt-ltb n 128 small) refl
same_groups (suc a) zero n p q = let small : n < 128 = omega arith in rw (lt-ltb n 128 small) refl
same_groups (suc a) (suc b) n p q =
    elim (cases_lt n 128) [
      | inl small ↦ rw (lt-ltb n 128 small) refl
      | inr le ↦ (
          let e = same_groups a b (n / 128) (div_below n 128 (2 ^ (7 * suc a)) (omega arith) (omega (arith, power-next (suc a)))) (div_below n 128 (2 ^ (7 * suc b)) (omega arith) (omega (arith, power-next (suc b)))) in
          rw (le-ltb n 128 le) (ap (λ (x : List ℕ). (n % 128 + 128) ∷ x) e))
    ]

fits_groups : (left top n : ℕ) → top < 128 → n < (top + 1) * 2 ^ (7 * left) → n < 2 ^ (7 * suc left)
fits_groups left top n t lt = omega (arith, power-next left, mul-le-mul_right {m = top + 1} {n = 128} (2 ^ (7 * left)) (omega arith))

shortest_of : (most top : ℕ) (n : ℤ) → top < 128 → suc most ≤ LONG_BYTES → zigzag n < (top + 1) * 2 ^ (7 * most) → IsNumber (record { most = suc most; top = top }) n (shortest n)
unfolding shortest
shortest_of most top n t ten lt =
    let fits = fits_groups most top (zigzag n) t lt in
    let ten_fit : zigzag n < 2 ^ (7 * suc 9) = omega (arith, fits, pow_mono {i = 7 * suc most} {j = 7 * suc 9} (omega arith)) in
    let same : shortest_groups (suc most) (zigzag n) ≡ shortest_groups LONG_BYTES (zigzag n) = same_groups most 9 (zigzag n) fits ten_fit in
    let s = shortest_groups-spelled most top (zigzag n) t lt in
    subst (λ (x : List ℕ). IsNumber (record { most = suc most; top = top }) n x) same (record { chained = s.chained; short = s.short; last = rw sub-one s.last; value = s.sum })

shortest_within : (most top : ℕ) (n : ℤ) → 0 < most → top < 128 → most ≤ LONG_BYTES → FitsLimit (record { most = most; top = top }) n → IsNumber (record { most = most; top = top }) n (shortest n)
shortest_within zero top n some t ten fits = absurd (omega arith)
shortest_within (suc most) top n some t ten fits = let lt : zigzag n < (top + 1) * 2 ^ (7 * most) = rw sub-one at fits in shortest_of most top n t ten lt

-- the shortest spelling is one, where the limit's bytes can hold the number
pub shortest_is_number : (limit : Limit) (n : ℤ) → 0 < limit.most → limit.top < 128 → limit.most ≤ LONG_BYTES → FitsLimit limit n → IsNumber limit n (shortest n)
shortest_is_number limit n some t ten fits = shortest_within limit.most limit.top n some t ten fits

-- ---- and no spelling is shorter

no_shorter : (left : ℕ) (bytes : List ℕ) → IsChained bytes → length (shortest_groups left (groups_sum bytes)) ≤ length bytes
unfolding shortest_groups
no_shorter left [] c = absurd c
no_shorter zero (b ∷ bytes) c = omega arith
no_shorter (suc left) (b ∷ []) c = let e : groups_sum (b ∷ []) ≡ b = omega arith in let small : b < 128 = c in rw (e, lt-ltb b 128 small) (omega arith)
no_shorter (suc left) (b ∷ d ∷ bytes) c =
    let sum = groups_sum (b ∷ d ∷ bytes) in
    let rest = groups_sum (d ∷ bytes) in
    let q : sum / 128 ≡ rest = omega arith in
    let h = no_shorter left (d ∷ bytes) c.1 in
    elim (cases_lt sum 128) [
      | inl small ↦ rw (lt-ltb sum 128 small) (omega arith)
      | inr le ↦ rw (le-ltb sum 128 le) (omega (arith, h, ap (λ (k : ℕ). length (shortest_groups left k)) q))
    ]

pub shortest_is_shortest : (limit : Limit) (n : ℤ) (bytes : List ℕ) → IsNumber limit n bytes → length (shortest n) ≤ length bytes
unfolding shortest
shortest_is_shortest limit n bytes s = subst (λ (k : ℕ). length (shortest_groups LONG_BYTES k) ≤ length bytes) s.value (no_shorter 10 bytes s.chained)

pub extends_more : (old out new x : List ℕ) → Extends old out → new ≡ out ++ x → Extends old new
extends_more old out new x e is = (e.0 ++ x, is ∙ ap (λ (b : List ℕ). b ++ x) e.1 ∙ append_assoc old e.0 x)
