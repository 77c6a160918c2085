-- Putting the groups of a varint together, one byte after another.
use Rattle.std.proofs.Common.{◌≡◌, ℕ, zero, suc, ◌+◌, ◌-◌, ◌*◌, ◌%◌, ◌^◌, ◌<◌, ◌≤◌, List, [], ◌∷◌, ◌++◌, length, take, drop, get_or, refl, sym, ap, subst, ◌∙◌, append_assoc, arith, add-one, add-zero, inl, inr}
use Rattle.std.proofs.lemmas.Bool.{le-ltb, lt-ltb, cases_lt}
use Rattle.std.proofs.Math.Seq.{drop-cons, take-suc}
use Rattle.std.proofs.Math.ListN.{drop_of_length-le}
use Rattle.std.proofs.Math.Pow.{pow_pos, pow_mono}
use Rattle.std.proofs.Math.Nat.{mul-le-mul_right}
use Rattle.std.proofs.Math.Numerals.{sub-one}
use Rattle.std.proofs.lemmas.List.{length-drop, length-take, get_or-drop}
use Rattle.std.proofs.lemmas.Nat.{pow-add, shl_whole}
use Rattle.spec_avro.specs.Number.{groups_sum}
use Rattle.spec_decoding.specs.NumberDecoding.{Front, Ends, TooGreat, Open, longer, number_front}

abbrev pub prefixed : List ℕ → Front → Front
prefixed seen (Ends bytes) = Ends (seen ++ bytes)
prefixed seen TooGreat = TooGreat
prefixed seen Open = Open

pub prefixed-longer : (seen : List ℕ) (b : ℕ) (f : Front) → prefixed seen (longer b f) ≡ prefixed (seen ++ b ∷ []) f
prefixed-longer seen b (Ends bytes) = ap Ends (sym (append_assoc seen (b ∷ []) bytes))
prefixed-longer seen b TooGreat = refl
prefixed-longer seen b Open = refl

pub power-next : (n : ℕ) → 2 ^ (7 * suc n) ≡ 128 * 2 ^ (7 * n)
power-next n =
    let e : 7 * suc n ≡ 7 + 7 * n = omega arith in
    ap (λ (k : ℕ). 2 ^ k) e ∙ pow-add 2 7 (7 * n)

pub scaled : (g p : ℕ) → g * (128 * p) ≡ 128 * (g * p)
scaled g p = omega arith

pub groups_sum-push : (seen : List ℕ) (b : ℕ) → groups_sum (seen ++ b ∷ []) ≡ groups_sum seen + b % 128 * 2 ^ (7 * length seen)
groups_sum-push [] b = omega arith
groups_sum-push (x ∷ seen) b =
    let p = 2 ^ (7 * length seen) in
    rw (power-next (length seen), groups_sum-push seen b) (omega (arith, scaled (b % 128) p))

front_open : (left top : ℕ) → 0 < left → number_front left top [] ≡ Open
unfolding number_front
front_open zero top h = absurd (omega arith)
front_open (suc left) top h = refl

front_great : (left top b : ℕ) (bytes : List ℕ) → left ≡ 1 → top < b → number_front left top (b ∷ bytes) ≡ TooGreat
unfolding number_front
front_great zero top b bytes e lt = absurd cc
front_great (suc zero) top b bytes e lt = rw lt-ltb refl
front_great (suc (suc left)) top b bytes e lt = absurd (omega arith)

front_ends : (left top b : ℕ) (bytes : List ℕ) → 0 < left → (left ≡ 1 → b ≤ top) → b < 128 → number_front left top (b ∷ bytes) ≡ Ends (b ∷ [])
unfolding number_front
front_ends zero top b bytes h t lt = absurd (omega arith)
front_ends (suc zero) top b bytes h t lt = let le : b ≤ top = t refl in rw le-ltb refl
front_ends (suc (suc left)) top b bytes h t lt = rw lt-ltb refl

front_more : (left top b : ℕ) (bytes : List ℕ) → 1 < left → 128 ≤ b → number_front left top (b ∷ bytes) ≡ longer b (number_front (left - 1) top bytes)
unfolding number_front
front_more zero top b bytes h le = absurd (omega arith)
front_more (suc zero) top b bytes h le = absurd (omega arith)
front_more (suc (suc left)) top b bytes h le = rw (le-ltb, sub-one) refl

-- where the groups of the first i bytes have been put together
pub record SoFar (bytes : List ℕ) (at most top i value : ℕ) : Type 0 where
  pub inside : at + i ≤ length bytes
  pub more : i < most
  pub sum : value ≡ groups_sum (take i (drop at bytes))
  pub small : value < 2 ^ (7 * i)
  pub front : prefixed (take i (drop at bytes)) (number_front (most - i) top (drop (at + i) bytes)) ≡ number_front most top (drop at bytes)

prefixed-nothing : (f : Front) → prefixed [] f ≡ f
prefixed-nothing (Ends bytes) = refl
prefixed-nothing TooGreat = refl
prefixed-nothing Open = refl

pub starts : (bytes : List ℕ) (at most top : ℕ) → at ≤ length bytes → 0 < most → SoFar bytes at most top 0 0
starts bytes at most top h k =
    let e : most - 0 ≡ most = omega arith in
    record { inside = omega arith; more = k; sum = refl; small = omega arith; front = rw (e, add-zero) (prefixed-nothing (number_front most top (drop at bytes))) }

pub seen_length : (bytes : List ℕ) (at i : ℕ) → at + i ≤ length bytes → length (take i (drop at bytes)) ≡ i
seen_length bytes at i h = omega (arith, length-take i (drop at bytes), length-drop at bytes)

seen_more : (bytes : List ℕ) (at i : ℕ) → at + i < length bytes → take (i + 1) (drop at bytes) ≡ take i (drop at bytes) ++ get_or bytes (at + i) 0 ∷ []
seen_more bytes at i h =
    let inside : i < length (drop at bytes) = omega (arith, length-drop at bytes) in
    rw (add-one, take-suc (drop at bytes) i 0 inside, get_or-drop at bytes i 0) refl

module _ (bytes : List ℕ) (at most top i value : ℕ) (s : SoFar bytes at most top i value) where
  pub opens : length bytes ≤ at + i → number_front most top (drop at bytes) ≡ Open
  opens h =
      let nothing : drop (at + i) bytes ≡ [] = drop_of_length-le bytes h in
      let left : 0 < most - i = omega (arith, s.more) in
      let one : number_front (most - i) top (drop (at + i) bytes) ≡ Open = ap (number_front (most - i) top) nothing ∙ front_open (most - i) top left in
      sym s.front ∙ ap (prefixed (take i (drop at bytes))) one

  pub too_great : at + i < length bytes → i + 1 ≡ most → top < get_or bytes (at + i) 0 → number_front most top (drop at bytes) ≡ TooGreat
  too_great h e lt =
      let cell = drop-cons bytes (at + i) 0 h in
      let left : most - i ≡ 1 = omega arith in
      let one : number_front (most - i) top (drop (at + i) bytes) ≡ TooGreat = ap (number_front (most - i) top) cell ∙ front_great (most - i) top (get_or bytes (at + i) 0) (drop (suc (at + i)) bytes) left lt in
      sym s.front ∙ ap (prefixed (take i (drop at bytes))) one

  pub ends : at + i < length bytes → (i + 1 ≡ most → get_or bytes (at + i) 0 ≤ top) → get_or bytes (at + i) 0 < 128 → number_front most top (drop at bytes) ≡ Ends (take (i + 1) (drop at bytes))
  ends h t lt =
      let cell = drop-cons bytes (at + i) 0 h in
      let left : 0 < most - i = omega (arith, s.more) in
      let one : number_front (most - i) top (drop (at + i) bytes) ≡ Ends (get_or bytes (at + i) 0 ∷ []) = ap (number_front (most - i) top) cell ∙ front_ends (most - i) top (get_or bytes (at + i) 0) (drop (suc (at + i)) bytes) left (λ e. t (omega (arith, s.more))) lt in
      sym s.front ∙ ap (prefixed (take i (drop at bytes))) one ∙ ap Ends (sym (seen_more bytes at i h))

  pub summed : at + i < length bytes → (group next : ℕ) → group ≡ get_or bytes (at + i) 0 % 128 → next ≡ value + group * 2 ^ (7 * i) → next ≡ groups_sum (take (i + 1) (drop at bytes))
  summed h group next g e =
      rw (seen_more bytes at i h, groups_sum-push (take i (drop at bytes)) (get_or bytes (at + i) 0), seen_length bytes at i (omega arith), ← g, ← s.sum) e

  pub goes_on : at + i < length bytes → i + 1 < most → 128 ≤ get_or bytes (at + i) 0 → (group next : ℕ) → group < 128 → group ≡ get_or bytes (at + i) 0 % 128 → next ≡ value + group * 2 ^ (7 * i) → SoFar bytes at most top (i + 1) next
  goes_on h m le group next lt g e =
      let cell = drop-cons bytes (at + i) 0 h in
      let one : number_front (most - i) top (drop (at + i) bytes) ≡ longer (get_or bytes (at + i) 0) (number_front (most - i - 1) top (drop (suc (at + i)) bytes)) = ap (number_front (most - i) top) cell ∙ front_more (most - i) top (get_or bytes (at + i) 0) (drop (suc (at + i)) bytes) (omega arith) le in
      let fewer : most - (i + 1) ≡ most - i - 1 = omega arith in
      let place : at + (i + 1) ≡ suc (at + i) = omega arith in
      let two = prefixed-longer (take i (drop at bytes)) (get_or bytes (at + i) 0) (number_front (most - i - 1) top (drop (suc (at + i)) bytes)) in
      record {
        inside = omega arith;
        more = m;
        sum = summed h group next g e;
        small = rw (add-one, power-next i) (omega (arith, s.small, mul-le-mul_right {m = group} {n = 127} (2 ^ (7 * i)) (omega arith)));
        front = rw (fewer, place, seen_more bytes at i h) (sym two ∙ ap (prefixed (take i (drop at bytes))) (sym one) ∙ s.front);
      }

-- a group in its place fits beside what is there
pub shifted : (i value group : ℕ) → value < 2 ^ (7 * i) → group < 128 → i < 10 → (i ≡ 9 → group ≤ 1) → (group * 2 ^ (7 * i) % 2 ^ 64 ≡ group * 2 ^ (7 * i)) × (value + group * 2 ^ (7 * i) < 2 ^ 64)
shifted i value group small lt below last =
    elim (cases_lt i 9) [
      | inl h ↦ (
        shl_whole group 7 (7 * i) 64 (omega arith) (omega arith),
        (
            let k : 7 * i + 7 ≤ 63 = omega arith in
            let p : 2 ^ (7 * i + 7) ≤ 2 ^ 63 = pow_mono k in
            let e : 2 ^ (7 * i + 7) ≡ 2 ^ (7 * i) * 128 = pow-add 2 (7 * i) 7 in
            omega (arith, e, p, mul-le-mul_right {m = group} {n = 127} (2 ^ (7 * i)) (omega arith))),
      )
      | inr h ↦ (
          let e : i ≡ 9 = omega arith in
          let one : group ≤ 1 = last e in
          let small' : value < 2 ^ 63 = subst (λ (k : ℕ). value < 2 ^ (7 * k)) e small in
          let both : (group * 2 ^ 63 % 2 ^ 64 ≡ group * 2 ^ 63) × (value + group * 2 ^ 63 < 2 ^ 64) = (shl_whole group 1 63 64 (omega arith) (omega arith), omega arith) in
          subst (λ (k : ℕ). (group * 2 ^ (7 * k) % 2 ^ 64 ≡ group * 2 ^ (7 * k)) × (value + group * 2 ^ (7 * k) < 2 ^ 64)) (sym e) both)
    ]

pub ends_is : {a b : List ℕ} → Ends a ≡ Ends b → a ≡ b
ends_is e = cc

pub longer_ends : (b : ℕ) (f : Front) (ends : List ℕ) → longer b f ≡ Ends ends → (bytes : List ℕ) × (f ≡ Ends bytes) × (ends ≡ b ∷ bytes)
longer_ends b (Ends bytes) ends e = (bytes, refl, cc)
longer_ends b TooGreat ends e = absurd cc
longer_ends b Open ends e = absurd cc

-- what `suc left` groups can hold
pub groups_below : (left top : ℕ) (bytes ends : List ℕ) → top < 128 → number_front (suc left) top bytes ≡ Ends ends → groups_sum ends < (top + 1) * 2 ^ (7 * left)
unfolding number_front
groups_below zero top [] ends h e = absurd cc
groups_below (suc left) top [] ends h e = absurd cc
groups_below zero top (b ∷ bytes) ends h e =
    elim (cases_lt top b) [
      | inl lt ↦ absurd (let f : TooGreat ≡ Ends ends = rw lt-ltb at e in cc)
      | inr le ↦ (let f : Ends (b ∷ []) ≡ Ends ends = rw le-ltb at e in let one : groups_sum ends ≡ b % 128 = ap groups_sum (sym (ends_is f)) ∙ omega arith in omega arith)
    ]
groups_below (suc left) top (b ∷ bytes) ends h e =
    let p = pow_pos (7 * left) in
    elim (cases_lt b 128) [
      | inl lt ↦ (let f : Ends (b ∷ []) ≡ Ends ends = rw lt-ltb at e in let one : groups_sum ends ≡ b % 128 = ap groups_sum (sym (ends_is f)) ∙ omega arith in rw (power-next left) (omega (arith, mul-le-mul_right {m = 1} {n = top + 1} (2 ^ (7 * left)) (omega arith))))
      | inr le ↦ (
          let f : longer b (number_front (suc left) top bytes) ≡ Ends ends = rw le-ltb at e in
          let g = longer_ends b (number_front (suc left) top bytes) ends f in
          let fewer = groups_below left top bytes g.0 h g.1 in
          let one : groups_sum ends ≡ b % 128 + 128 * groups_sum g.0 = ap groups_sum g.2 in
          rw (power-next left) (omega (arith, scaled (top + 1) (2 ^ (7 * left)))))
    ]

pub front_below : (most top : ℕ) (bytes ends : List ℕ) → 0 < most → top < 128 → number_front most top bytes ≡ Ends ends → groups_sum ends < (top + 1) * 2 ^ (7 * (most - 1))
front_below zero top bytes ends h t e = absurd (omega arith)
front_below (suc left) top bytes ends h t e = rw sub-one (groups_below left top bytes ends t e)
