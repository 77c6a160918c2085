-- What digits write, and the words that are numbers.
use Rattle.std.proofs.Common.{◌≡◌, ◌⊎◌, inl, inr, ℕ, zero, suc, ◌+◌, ◌*◌, ◌-◌, ◌^◌, ◌<◌, min, Bool, true, false, cond, not, ◌&&◌, ◌||◌, nat_eq, leb, List, [], ◌∷◌, length, take, get_or, Some, None, refl, sym, ap, subst, ◌∙◌, arith}
use Rattle.std.specs.List.{list_all}
use Rattle.std.specs.Char.{is_ascii_digit, digit_value}
use Rattle.std.specs.Fmt.{decimal}
use Rattle.std.specs.Int.{IsInRange}
use Rattle.std.specs.Str.Parse.{digits_value}
use Rattle.std.proofs.lemmas.Bool.{eqb-true, leb-true, le-leb}
use Rattle.std.proofs.lemmas.Fmt.{decimal_digit, decimal-digits_value, decimal_nonempty, digits_decimal, digits_value-decimal, first_decimal}
use Rattle.std.proofs.lemmas.Int.Digits.{digits_value_more}
use Rattle.std.proofs.lemmas.Str.{digit_value_digit}
use Rattle.std.proofs.lemmas.Str.Parse.{IsDigitsTest, IsNumeralModel, digit_at, numerals_by_value}
use Rattle.spec_machine.specs.ListingWords.{is_numeral, most_number, number_in, value_of}
use Rattle.avro_bytes.specs.Laws.Plain.{both}
use Rattle.assembler.specs.Laws.Plain.{are_digits}

pub tells : IsDigitsTest are_digits
tells = record {
  empty = refl;
  parts = λ c cs e. let k = both (is_ascii_digit c) (list_all is_ascii_digit cs) e in let m = both (leb 48 c) (leb c 57) k.0 in ((leb-true 48 c m.0, leb-true c 57 m.1), k.1);
  more = λ c cs k e i. (le-leb 48 c k.0 i && le-leb c 57 k.1 i) && e i;
}

pub model : IsNumeralModel are_digits (digits_value 10)
model = numerals_by_value are_digits tells

pub digit_here : (ds : List ℕ) (i : ℕ) → are_digits ds → i < length ds → IsInRange 48 57 (get_or ds i 0)
digit_here ds i e h = let m = model in digit_at ds i (m.to ds e) h

-- one digit more
pub saturates : (most v n d : ℕ) → v ≡ min most n → min (min (v * 10) most + d) most ≡ min most (n * 10 + d)
saturates most v n d e = rw e (omega arith)

pub one_digit : (ds : List ℕ) (i v : ℕ) → are_digits ds → i < length ds → v ≡ value_of (take i ds)
    → min (min (v * 10) most_number + (get_or ds i 0 - 48)) most_number ≡ value_of (take (i + 1) ds)
one_digit ds i v e h so_far =
    let k = digit_here ds i e h in
    let d : get_or ds i 0 - 48 ≡ digit_value (get_or ds i 0) = omega (arith, digit_value_digit (get_or ds i 0) k) in
    saturates most_number v (digits_value 10 (take i ds)) (get_or ds i 0 - 48) so_far
    ∙ ap (λ (x : ℕ). min most_number (digits_value 10 (take i ds) * 10 + x)) d
    ∙ ap (λ (x : ℕ). min most_number x) (sym (digits_value_more 10 ds i h))

-- ---- numbers and words

not_zero : (d : ℕ) (ds : List ℕ) → (not (nat_eq d 48) || nat_eq (length ds) 0) ≡ true → d ≡ 48 → length (d ∷ ds) ≡ 1
not_zero d [] e same = refl
not_zero d (c ∷ ds) e same =
    let clash : (not (nat_eq 48 48) || nat_eq (length (c ∷ ds)) 0) ≡ true = subst (λ (x : ℕ). (not (nat_eq x 48) || nat_eq (length (c ∷ ds)) 0) ≡ true) same e in
    absurd (omega (arith, eqb-true (length (c ∷ ds)) 0 clash))

numeral_is : (word : List ℕ) → is_numeral word ≡ true → digits_value 10 word < 2 ^ 64 → decimal (digits_value 10 word) ≡ word
numeral_is [] e small = absurd cc
numeral_is (d ∷ ds) e small =
    let k = both (list_all is_ascii_digit (d ∷ ds)) (not (nat_eq d 48) || nat_eq (length ds) 0) e in
    decimal-digits_value model (d ∷ ds) k.0 (omega arith) (not_zero d ds k.1) small

-- what a word that is a number is, where the number is small
pub number_taken : (word : List ℕ) (n : ℕ) → number_in word ≡ Some n → n < 2 ^ 32 - 1 → decimal n ≡ word
unfolding number_in
number_taken word n e small = by_test (is_numeral word) refl e where
  by_test : (b : Bool) → is_numeral word ≡ b → cond b (Some (value_of word)) None ≡ Some n → decimal n ≡ word
  by_test true is e =
      let v : value_of word ≡ n = cc in
      let exact : digits_value 10 word ≡ n = omega (arith, v, small) in
      subst (λ (m : ℕ). decimal m ≡ word) exact (numeral_is word is (omega (arith, exact, small)))
  by_test false is e = absurd cc

not_eq : (d n : ℕ) → n < d → nat_eq d n ≡ false
not_eq d n h = grind arith

first_is : (ds : List ℕ) → are_digits ds → 0 < length ds → (48 < get_or ds 0 0) ⊎ (length ds ≡ 1) → is_numeral ds ≡ true
first_is [] e h f = absurd (omega arith)
first_is (d ∷ []) e h f = rw e (by_any (not (nat_eq d 48))) where
  by_any : (b : Bool) → (b || true) ≡ true
  by_any true = refl
  by_any false = refl
first_is (d ∷ c ∷ ds) e h (inl f) = let other : nat_eq d 48 ≡ false = not_eq d 48 f in rw (e, other) refl
first_is (d ∷ c ∷ ds) e h (inr f) = absurd (omega (arith, f))

decimal_is_numeral : (n : ℕ) → n < 2 ^ 64 → is_numeral (decimal n) ≡ true
decimal_is_numeral zero h = ap is_numeral (decimal_digit 0 (omega arith))
decimal_is_numeral (suc n) h = first_is (decimal (suc n)) (digits_decimal model (suc n) h) (decimal_nonempty (suc n) h) (inl (first_decimal (suc n) (omega arith) h))

pub number_again : (n : ℕ) → n < 2 ^ 32 → number_in (decimal n) ≡ Some n
unfolding number_in
number_again n h =
    let wide : n < 2 ^ 64 = omega (arith, h) in
    let same : min most_number (digits_value 10 (decimal n)) ≡ n = omega (arith, digits_value-decimal model n wide, h) in
    rw (decimal_is_numeral n wide, same) refl
