-- How long counts are: that of all items is no longer than those of their blocks.
use Rattle.std.proofs.Common.{Option, Some, None, ◌≡◌, ℕ, zero, suc, ◌+◌, ◌*◌, ◌/◌, ◌<◌, ◌≤◌, List, [], ◌∷◌, ◌++◌, length, ℤ, pos, negsuc, refl, sym, ap, ◌∙◌, append_assoc, arith, inl, inr}
use Rattle.std.proofs.lemmas.Bool.{cases_lt, le-ltb, lt-ltb}
use Rattle.std.proofs.lemmas.List.{length-append}
use Rattle.spec_avro.specs.declared.limits.TheConstants.{LONG_BYTES}
use Rattle.spec_avro.specs.Blocks.{IsBlocks, IsHead, IsItems, joined}
use Rattle.spec_avro.specs.Number.{long_limit, zigzag}
use Rattle.spec_avro.specs.Shortest.{shortest, shortest_groups}
use Rattle.avro_bytes.specs.Laws.Shortests.{shortest_is_shortest}
use Rattle.spec_avro.specs.Written.{block_count}

abbrev groups_len : ℕ → ℕ → ℕ
groups_len left n = length (shortest_groups left n)

one_group : (left n : ℕ) → n < 128 → groups_len (suc left) n ≡ 1
unfolding shortest_groups
one_group left n lt = rw (lt-ltb n 128 lt) refl

more_groups : (left n : ℕ) → 128 ≤ n → groups_len (suc left) n ≡ suc (groups_len left (n / 128))
unfolding shortest_groups
more_groups left n le = rw (le-ltb n 128 le) refl

no_groups : (n : ℕ) → groups_len 0 n ≡ 0
unfolding shortest_groups
no_groups n = refl

at_most_one : (left n : ℕ) → n < 128 → groups_len left n ≤ 1
at_most_one zero n lt = omega (arith, no_groups n)
at_most_one (suc left) n lt = omega (arith, one_group left n lt)

not_longer : (left x y : ℕ) → x ≤ y → groups_len left x ≤ groups_len left y
not_longer zero x y le = omega (arith, no_groups x)
not_longer (suc left) x y le =
    elim (cases_lt x 128) [
      | inl small ↦ elim (cases_lt y 128) [
        | inl other ↦ omega (arith, one_group left x small, one_group left y other)
        | inr great ↦ omega (arith, one_group left x small, more_groups left y great)
      ]
      | inr great ↦ (
          let other : 128 ≤ y = omega arith in
          let inner = not_longer left (x / 128) (y / 128) (omega arith) in
          omega (arith, more_groups left x great, more_groups left y other, inner))
    ]

one_longer : (left x : ℕ) → groups_len left (x + 1) ≤ groups_len left x + 1
one_longer zero x = omega (arith, no_groups (x + 1))
one_longer (suc left) x =
    elim (cases_lt (x + 1) 128) [
      | inl small ↦ omega (arith, one_group left (x + 1) small)
      | inr great ↦ elim (cases_lt x 128) [
        | inl other ↦ (
            let inner = at_most_one left ((x + 1) / 128) (omega arith) in
            omega (arith, more_groups left (x + 1) great, one_group left x other, inner))
        | inr both ↦ (
            let step = not_longer left ((x + 1) / 128) (x / 128 + 1) (omega arith) in
            let inner = one_longer left (x / 128) in
            omega (arith, more_groups left (x + 1) great, more_groups left x both, step, inner))
      ]
    ]

together : (left x y : ℕ) → groups_len left (x + y) ≤ groups_len left x + groups_len left y
together zero x y = omega (arith, no_groups (x + y))
together (suc left) x y =
    elim (cases_lt (x + y) 128) [
      | inl small ↦ (
          let a : x < 128 = omega arith in
          let b : y < 128 = omega arith in
          omega (arith, one_group left (x + y) small, one_group left x a, one_group left y b))
      | inr great ↦ elim (cases_lt x 128) [
        | inl a ↦ elim (cases_lt y 128) [
          | inl b ↦ (
              let inner = at_most_one left ((x + y) / 128) (omega arith) in
              omega (arith, more_groups left (x + y) great, one_group left x a, one_group left y b, inner))
          | inr b ↦ (
              let step = not_longer left ((x + y) / 128) (y / 128 + 1) (omega arith) in
              let inner = one_longer left (y / 128) in
              omega (arith, more_groups left (x + y) great, one_group left x a, more_groups left y b, step, inner))
        ]
        | inr a ↦ elim (cases_lt y 128) [
          | inl b ↦ (
              let step = not_longer left ((x + y) / 128) (x / 128 + 1) (omega arith) in
              let inner = one_longer left (x / 128) in
              omega (arith, more_groups left (x + y) great, more_groups left x a, one_group left y b, step, inner))
          | inr b ↦ (
              let step = not_longer left ((x + y) / 128) ((x / 128 + y / 128) + 1) (omega arith) in
              let next = one_longer left (x / 128 + y / 128) in
              let inner = together left (x / 128) (y / 128) in
              omega (arith, more_groups left (x + y) great, more_groups left x a, more_groups left y b, step, next, inner))
        ]
      ]
    ]

-- ---- counts

long_enough : (n : ℤ) → 1 ≤ length (shortest n)
unfolding shortest
long_enough n =
    elim (cases_lt (zigzag n) 128) [
      | inl small ↦ omega (arith, one_group 9 (zigzag n) small)
      | inr great ↦ omega (arith, more_groups 9 (zigzag n) great)
    ]

counts_together : (a b : ℕ) → length (block_count (a + b)) ≤ length (block_count a) + length (block_count b)
unfolding shortest
counts_together zero b = let e : zero + b ≡ b = omega arith in rw e (omega arith)
counts_together (suc a) zero = let e : suc a + zero ≡ suc a = omega arith in rw e (omega arith)
counts_together (suc a) (suc b) =
    let e : suc a + suc b ≡ suc (a + suc b) = omega arith in
    let sum : 2 * suc (a + suc b) ≡ 2 * suc a + 2 * suc b = omega arith in
    rw (e, sum) (together LONG_BYTES (2 * suc a) (2 * suc b))

zero_long : length (shortest (pos 0)) ≡ 1
unfolding shortest
zero_long = one_group 9 0 (omega arith)

-- a count below 0 is shorter by one byte at most, and a size comes after it
sized_shorter : (n : ℕ) → length (shortest (pos (suc n))) ≤ length (shortest (negsuc n)) + 1
unfolding shortest
sized_shorter n = let e : 2 * suc n ≡ (2 * n + 1) + 1 = omega arith in rw e (one_longer LONG_BYTES (2 * n + 1))

head_longer : (count : ℕ) (said : Option ℤ) (head : List ℕ) → 0 < count → IsHead count said head → length (block_count count) ≤ length head
head_longer zero said head some h = absurd (omega (arith, some))
head_longer (suc n) None head some h = shortest_is_shortest long_limit (pos (suc n)) head h
head_longer (suc n) (Some len) head some s =
    let count = shortest_is_shortest long_limit (negsuc n) s.count_bytes s.number in
    let size = shortest_is_shortest long_limit len s.size_bytes s.said in
    omega (arith, sized_shorter n, count, size, long_enough len, ap length s.parts, length-append s.count_bytes s.size_bytes)

joined-append : (is js : List (List ℕ)) → joined (is ++ js) ≡ joined is ++ joined js
joined-append [] js = refl
joined-append (i ∷ is) js = ap (λ (b : List ℕ). i ++ b) (joined-append is js) ∙ sym (append_assoc i (joined is) (joined js))

-- blocks are no shorter than one with all their items
blocks_longer : (blocks : List (List (List ℕ))) (bytes : List ℕ) → IsBlocks blocks bytes → length (block_count (length (joined blocks))) + (length (joined (joined blocks)) + 1) ≤ length bytes
blocks_longer [] bytes s = let one = shortest_is_shortest long_limit (pos 0) bytes s in omega (arith, one, zero_long)
blocks_longer (items ∷ blocks) bytes s =
    let said = s.4 in
    let head = head_longer (length items) said.0 s.0 s.3 said.1 in
    let others = blocks_longer blocks s.1 s.5 in
    let counts = counts_together (length items) (length (joined blocks)) in
    let many : length (items ++ joined blocks) ≡ length items + length (joined blocks) = length-append items (joined blocks) in
    let flat : length (joined (items ++ joined blocks)) ≡ length (joined items) + length (joined (joined blocks)) = ap length (joined-append items (joined blocks)) ∙ length-append (joined items) (joined (joined blocks)) in
    rw many (omega (arith, head, others, counts, flat, ap length s.2, length-append s.0 (joined items ++ s.1), length-append (joined items) s.1))

pub items_longer : (items : List (List ℕ)) (bytes : List ℕ) → IsItems items bytes → length (block_count (length items)) + (length (joined items) + 1) ≤ length bytes
items_longer items bytes s = rw (← s.all) (blocks_longer s.blocks bytes s.spelled)

pub block_len : (many : ℕ) (bytes : List ℕ) → length (block_count many ++ (bytes ++ shortest (pos 0))) ≡ length (block_count many) + (length bytes + 1)
block_len many bytes = omega (arith, length-append (block_count many) (bytes ++ shortest (pos 0)), length-append bytes (shortest (pos 0)), zero_long)
