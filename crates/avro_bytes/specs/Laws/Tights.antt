-- A spelling of one byte, or whose last byte adds something, is the shortest one.
use Rattle.std.proofs.Common.{◌≡◌, ℕ, zero, suc, ◌+◌, ◌-◌, ◌/◌, ◌%◌, ◌<◌, ◌≤◌, List, [], ◌∷◌, refl, ap, ◌∙◌, arith, length, inl, inr, get_or, ℤ}
use Rattle.std.proofs.lemmas.Bool.{le-ltb, lt-ltb}
use Rattle.spec_avro.specs.declared.limits.TheConstants.{LONG_BYTES}
use Rattle.spec_avro.specs.Number.{IsChained, IsNumber, Limit, groups_sum}
use Rattle.avro_bytes.specs.Shortest.{AreBytes, IsTight}
use Rattle.spec_avro.specs.Shortest.{shortest, shortest_groups}

later_last : (b d : ℕ) (bytes : List ℕ) → 0 < get_or (b ∷ d ∷ bytes) (length (b ∷ d ∷ bytes) - 1) 0 → 0 < get_or (d ∷ bytes) (length (d ∷ bytes) - 1) 0
later_last b d bytes last =
    let whole : length (b ∷ d ∷ bytes) - 1 ≡ suc (length bytes) = omega arith in
    let less : length (d ∷ bytes) - 1 ≡ length bytes = omega arith in
    rw less (let l : 0 < get_or (b ∷ d ∷ bytes) (suc (length bytes)) 0 = rw whole at last in l)

some_sum : (bytes : List ℕ) → IsChained bytes → 0 < get_or bytes (length bytes - 1) 0 → 0 < groups_sum bytes
some_sum [] c last = absurd c
some_sum (b ∷ []) c last =
    let first : 0 < b = last in
    let below : b < 128 = c in
    omega arith
some_sum (b ∷ d ∷ bytes) c last = let rest = some_sum (d ∷ bytes) c.1 (later_last b d bytes last) in omega arith

tight_is_shortest : (left : ℕ) (bytes : List ℕ) → AreBytes bytes → IsChained bytes → IsTight bytes → length bytes ≤ left → bytes ≡ shortest_groups left (groups_sum bytes)
unfolding shortest_groups
tight_is_shortest left [] a c t le = absurd c
tight_is_shortest zero (b ∷ bytes) a c t le = absurd (omega arith)
tight_is_shortest (suc left) (b ∷ []) a c t le =
    let e : groups_sum (b ∷ []) ≡ b = let below : b < 128 = c in omega arith in
    let small : b < 128 = c in
    rw (e, lt-ltb b 128 small) refl
tight_is_shortest (suc left) (b ∷ d ∷ bytes) a c (inl one) le = absurd (omega arith)
tight_is_shortest (suc left) (b ∷ d ∷ bytes) a c (inr last) le =
    let sum = groups_sum (b ∷ d ∷ bytes) in
    let rest = groups_sum (d ∷ bytes) in
    let later : 0 < get_or (d ∷ bytes) (length (d ∷ bytes) - 1) 0 = later_last b d bytes last in
    let some : 0 < rest = some_sum (d ∷ bytes) c.1 later in
    let high : 128 ≤ b = c.0 in
    let byte : b < 256 = a.0 in
    let q : sum / 128 ≡ rest = omega arith in
    let r : sum % 128 + 128 ≡ b = omega arith in
    let great : 128 ≤ sum = omega arith in
    rw (le-ltb sum 128 great, q, r) (ap (λ (x : List ℕ). b ∷ x) (tight_is_shortest left (d ∷ bytes) a.1 c.1 (inr later) (omega arith)))

pub tight_number_is_shortest : (limit : Limit) (n : ℤ) (bytes : List ℕ) → limit.most ≤ LONG_BYTES → AreBytes bytes → IsNumber limit n bytes → IsTight bytes → bytes ≡ shortest n
unfolding shortest
tight_number_is_shortest limit n bytes most a s t =
    tight_is_shortest LONG_BYTES bytes a s.chained t (omega (arith, s.short)) ∙ ap (shortest_groups LONG_BYTES) s.value
