-- Which bytes can come after a text, in a text.
use Rattle.std.proofs.Common.{◌≡◌, ℕ, ap, ◌∙◌, None, ◌+◌, ◌-◌, ◌*◌, ◌<◌, ◌≤◌, List, [], ◌++◌, length, get_or, take, drop, true, is_some, IsUtf8, refl, sym, subst, subst₂, ⊎_elim, inl, inr, append-nil, append_assoc, length-append, length-take, take_at, drop_at, take-append-drop, arith}
use Rattle.std.proofs.Math.ListN.{get_or-append}
use Rattle.std.proofs.lemmas.Bool.Decides.{nat_tests}
use Rattle.std.proofs.iter.FirstChar.{no_text, after_text}
use Rattle.std.proofs.str.Laws.{order, Follows}
use Rattle.std.proofs.str.Faults.{Ranged, no_char}
use Rattle.std.proofs.str.Valid.{of_one, of_two, of_three, of_four}
use Rattle.std.proofs.Math.Seq.{take-add}
use Rattle.std.proofs.lemmas.Str.{IsUtf8-append, IsUtf8-encode, len_utf8_bounds, length-encode}
use Rattle.std.specs.Char.{encode_utf8}
use Rattle.std.specs.Str.{IsValidUpTo, StartsWithNoChar}
use Rattle.std.specs.Str.Lossy.{utf8_error_len, second_byte_min, second_byte_max}

-- what follows a text in a text is a text
pub behind-text : (front tail : List ℕ) → IsUtf8 front → IsUtf8 (front ++ tail) → IsUtf8 tail
behind-text front tail f u =
    let n = length front in
    let whole : IsUtf8 (take n (front ++ tail)) = subst IsUtf8 (sym (take_at front tail n refl)) f in
    subst IsUtf8 (drop_at front tail n refl) (after_text (front ++ tail) n u whole)

-- a text with which no character begins is empty
pub no-first : (bs : List ℕ) → StartsWithNoChar bs → IsUtf8 bs → length bs ≡ 0
no-first bs none u = ⊎_elim
    (λ some. absurd (no_text bs [] (subst StartsWithNoChar (sym (append-nil bs)) none) u some))
    (λ le. omega (arith, le))
    (order 0 (length bs))

-- a text and then bytes with which no character begins is a text only where there are no such bytes
pub cut-text : (front carry : List ℕ) → IsUtf8 front → StartsWithNoChar carry → IsUtf8 (front ++ carry)
    → length carry ≡ 0
cut-text front carry f none u = no-first carry none (behind-text front carry f u)

-- ---- bytes at fault are many enough to show it
fault-first : (bs : List ℕ) → is_some (utf8_error_len bs) ≡ true → 0 < length bs
unfolding utf8_error_len
fault-first bs h = grind (arith, nat_tests)

fault-second : (bs : List ℕ) → is_some (utf8_error_len bs) ≡ true → 194 ≤ get_or bs 0 0 → get_or bs 0 0 < 245
    → 1 < length bs
unfolding utf8_error_len
fault-second bs h lo hi = grind (arith, nat_tests)

fault-third : (bs : List ℕ) → is_some (utf8_error_len bs) ≡ true → 194 ≤ get_or bs 0 0 → get_or bs 0 0 < 245
    → second_byte_min (get_or bs 0 0) ≤ get_or bs 1 0 → get_or bs 1 0 ≤ second_byte_max (get_or bs 0 0) → 2 < length bs
unfolding utf8_error_len
fault-third bs h lo hi least most = grind (arith, nat_tests)

fault-fourth : (bs : List ℕ) → is_some (utf8_error_len bs) ≡ true → 194 ≤ get_or bs 0 0 → get_or bs 0 0 < 245
    → second_byte_min (get_or bs 0 0) ≤ get_or bs 1 0 → get_or bs 1 0 ≤ second_byte_max (get_or bs 0 0)
    → Follows (get_or bs 2 0) → 3 < length bs
unfolding utf8_error_len
fault-fourth bs h lo hi least most third = grind (arith, nat_tests)

-- ---- the bytes of a character show no fault
above-min : (x y : ℕ) → 128 ≤ y → (x ≡ 224 → 160 ≤ y) → (x ≡ 240 → 144 ≤ y) → second_byte_min x ≤ y
above-min x y h three four = grind (arith, nat_tests)

below-max : (x y : ℕ) → y < 192 → (x ≡ 237 → y < 160) → (x ≡ 244 → y < 144) → y ≤ second_byte_max x
below-max x y h three four = grind (arith, nat_tests)

fits-first : (n x y z w : ℕ) → Ranged n x y z w → 128 ≤ x → (194 ≤ x) × (x < 245)
fits-first n x y z w r h = (
  (r.second h).0,
  ⊎_elim
      (λ l. omega (arith, l))
      (λ g. let f = (r.fourth g).2 in omega (arith, g, f.1))
      (order x 240),
)

fits-second : (n x y z w : ℕ) → Ranged n x y z w → 128 ≤ x → (second_byte_min x ≤ y) × (y ≤ second_byte_max x)
fits-second n x y z w r h =
    let f = (r.second h).2 in
    let three : x ≡ 237 → y < 160 = λ e. ⊎_elim
    (λ k. omega (arith, e, f.0, k))
    (λ k. omega (arith, e, f.0, f.1, k))
    (r.in_three (omega (arith, e)) (omega (arith, e))).1 in (
      above-min x y f.0
          (λ e. let k = r.in_three (omega (arith, e)) (omega (arith, e)) in omega (arith, e, f.0, k.0))
          (λ e. let k = (r.fourth (omega (arith, e))).2 in omega (arith, e, f.0, k.0)),
      below-max x y f.1 three (λ e. let k = (r.fourth (omega (arith, e))).2 in omega (arith, e, f.0, k.1)),
    )

-- bytes with which no character begins have no front that is a text
no-front : (bs : List ℕ) (n : ℕ) → StartsWithNoChar bs → 0 < n → n ≤ length bs → IsUtf8 (take n bs) → ⊥
no-front bs n none some le u =
    no_text (take n bs) (drop n bs) (subst StartsWithNoChar (sym (take-append-drop n bs)) none) u
    (omega (arith, length-take n bs, some, le))

-- rest is at fault, and no character begins it: then no character begins it with more after it
module _ (rest more : List ℕ) (none : StartsWithNoChar rest) (fault : is_some (utf8_error_len rest) ≡ true) where
  abbrev x : ℕ
  x = get_or rest 0 0

  abbrev y : ℕ
  y = get_or rest 1 0

  abbrev z : ℕ
  z = get_or rest 2 0

  abbrev with-more : ℕ → ℕ
  with-more i = get_or (rest ++ more) i 0

  same : (i : ℕ) → i < length rest → with-more i ≡ get_or rest i 0
  same i h = get_or-append rest more 0 i h

  some : 0 < length rest
  some = fault-first rest fault

  same-first : with-more 0 ≡ x
  same-first = same 0 some

  not-one : x < 128 → ⊥
  not-one h = no-front rest 1 none (omega arith) (omega (arith, some)) (of_one rest 0 some h)

  module _ (n : ℕ) (r : Ranged n (with-more 0) (with-more 1) (with-more 2) (with-more 3)) where
    high : 128 ≤ with-more 0
    high = ⊎_elim (λ l. absurd (not-one (omega (arith, l, same-first)))) (λ h. h) (order (with-more 0) 128)

    first : (194 ≤ x) × (x < 245)
    first = subst (λ b. (194 ≤ b) × (b < 245)) same-first (fits-first _ _ _ _ _ r high)

    two-long : 1 < length rest
    two-long = fault-second rest fault first.0 first.1

    same-second : with-more 1 ≡ y
    same-second = same 1 two-long

    follows-second : Follows y
    follows-second = subst Follows same-second (r.second high).2

    not-two : x < 224 → ⊥
    not-two h =
        no-front rest 2 none (omega arith) (omega (arith, two-long))
        (of_two rest 0 two-long (first.0, h) follows-second)

    past-two : 224 ≤ with-more 0
    past-two = ⊎_elim (λ l. absurd (not-two (omega (arith, l, same-first)))) (λ h. h) (order (with-more 0) 224)

    second : (second_byte_min x ≤ y) × (y ≤ second_byte_max x)
    second =
        subst₂ (λ a b. (second_byte_min a ≤ b) × (b ≤ second_byte_max a)) same-first same-second
        (fits-second _ _ _ _ _ r high)

    three-long : 2 < length rest
    three-long = fault-third rest fault first.0 first.1 second.0 second.1

    follows-third : Follows z
    follows-third = subst Follows (same 2 three-long) (r.third past-two).1

    -- of three bytes: not a shorter character's, and no surrogate's
    not-three : x < 240 → ⊥
    not-three h =
        let f = follows-second in
        let g = follows-third in
        let k = r.in_three past-two (omega (arith, same-first, h)) in
        no-front rest 3 none (omega arith) (omega (arith, three-long))
        (of_three rest 0 three-long (omega (arith, same-first, past-two), h) f g
        (omega (arith, same-first, same-second, past-two, f.0, k.0))
        (⊎_elim
        (λ l. inl (omega (arith, same-first, same-second, past-two, h, f.0, f.1, g.0, g.1, l)))
        (λ l. inr (omega (arith, same-first, same-second, past-two, h, f.0, f.1, g.0, g.1, l)))
        k.1))

    past-three : 240 ≤ with-more 0
    past-three = ⊎_elim (λ l. absurd (not-three (omega (arith, l, same-first)))) (λ h. h) (order (with-more 0) 240)

    four-long : 3 < length rest
    four-long = fault-fourth rest fault first.0 first.1 second.0 second.1 follows-third

    not-four : ⊥
    not-four =
        let k = r.fourth past-three in
        no-front rest 4 none (omega arith) (omega (arith, four-long))
        (of_four rest 0 four-long (omega (arith, same-first, past-three)) follows-second follows-third
        (subst Follows (same 3 four-long) k.1)
        (subst₂ (λ a b. let c : ℕ = (a - 240) * 64 + (b - 128) in (16 ≤ c) × (c < 272)) same-first same-second k.2))

  pub fault-begins-none : StartsWithNoChar (rest ++ more)
  fault-begins-none = no_char (rest ++ more) 0 (not-four _)

-- no text begins with a text and then bytes that are faulty (`utf8_error_len` of bytes that begin with a whole
-- character means nothing, so that no character begins them is needed)
pub broken-rest : (front rest more : List ℕ) → IsUtf8 front → StartsWithNoChar rest
    → is_some (utf8_error_len rest) ≡ true → IsUtf8 ((front ++ rest) ++ more) → ⊥
broken-rest front rest more f none fault u =
    let whole = subst IsUtf8 (append_assoc front rest more) u in
    let after : IsUtf8 (rest ++ more) = behind-text front (rest ++ more) f whole in
    let empty = no-first (rest ++ more) (fault-begins-none rest more none fault) after in
    omega (arith, empty, length-append rest more, fault-first rest fault)

-- after the longest front that is a text no character begins
pub none-behind : (bytes : List ℕ) (v : ℕ) → IsValidUpTo bytes v → StartsWithNoChar (drop v bytes)
none-behind bytes v u = λ c rest s e.
    let w = length (encode_utf8 c) in
    let parts : take (v + w) bytes ≡ take v bytes ++ encode_utf8 c =
    take-add v w bytes ∙ ap (λ (x : List ℕ). take v bytes ++ take w x) e
    ∙ ap (λ (x : List ℕ). take v bytes ++ x) (take_at (encode_utf8 c) rest w refl) in
    let more : v < v + w = omega (arith, length-encode c, (len_utf8_bounds c).0) in
    u.longest (v + w) more (subst IsUtf8 (sym parts) (IsUtf8-append (take v bytes) (encode_utf8 c) u.front (IsUtf8-encode c s)))

pub none-in-nothing : StartsWithNoChar []
none-in-nothing = λ c rest s e. let z : 0 ≡ length (encode_utf8 c ++ rest) = ap length e in
    omega (arith, z, length-append (encode_utf8 c) rest, length-encode c, (len_utf8_bounds c).0)

pub nothing-faultless : utf8_error_len [] ≡ None
unfolding utf8_error_len
nothing-faultless = refl
