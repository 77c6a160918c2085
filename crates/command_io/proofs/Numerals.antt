-- What `parse` reads of a numeral.
use Rattle.std.proofs.Common.{◌≡◌, ℕ, ◌^◌, ◌<◌, ◌≤◌, ◌&&◌, ◌||◌, not, nat_eq, nat_lt, nat_le, length, Bool, true, false, List, [], ◌∷◌, Some, None, Result, Ok, Err, refl, ap, arith}
use Rattle.std.specs.Char.{is_ascii_digit}
use Rattle.std.specs.List.{list_all}
use Rattle.std.specs.Result.{OkIff, result_ok}
use Rattle.std.specs.Str.Parse.{ParsesUnsigned, digits_value}
use Rattle.std.proofs.lemmas.Bool.{leb-true, le-leb, ltb-true, ltb-false}
use Rattle.std.proofs.lemmas.Str.Parse.{IsDigitsTest, IsNumeralModel, numerals_by_value, parse_digits}
use Rattle.spec_machine.specs.ListingWords.{is_numeral}
use Rattle.spec_lines.specs.Words.{number_below}
use Rattle.avro_bytes.specs.Laws.Plain.{both}
use Rattle.assembler.specs.Laws.Plain.{are_digits}

tells : IsDigitsTest are_digits
tells = record {
  empty = refl;
  parts = λ c cs e. let k = both (is_ascii_digit c) (list_all is_ascii_digit cs) e in let m = both (nat_le 48 c) (nat_le c 57) k.0 in ((leb-true 48 c m.0, leb-true c 57 m.1), k.1);
  more = λ c cs k e i. (le-leb 48 c k.0 i && le-leb c 57 k.1 i) && e i;
}

model : IsNumeralModel are_digits (digits_value 10)
model = numerals_by_value are_digits tells

digits : (word : List ℕ) → is_numeral word ≡ true → are_digits word
digits [] e = absurd cc
digits (d ∷ ds) e = (both (list_all is_ascii_digit (d ∷ ds)) (not (nat_eq d 48) || nat_eq (length ds) 0) e).0

judged : {E : Type 0} (limit : ℕ) (word : List ℕ) (r : Result ℕ E) (below : Bool) → nat_lt (digits_value 10 word) limit ≡ below
    → is_numeral word ≡ true → OkIff r ((0 < length word) × (digits_value 10 word < limit)) (digits_value 10 word) → 0 < length word
    → result_ok r ≡ number_below limit word
unfolding number_below
judged limit word (Ok x) true b e h some = rw (e, b) (ap Some h.1)
judged limit word (Ok x) false b e h some = let far : limit ≤ digits_value 10 word = ltb-false (digits_value 10 word) limit b in absurd (omega (arith, h.0.1, far))
judged limit word (Err x) true b e h some = absurd (h (some, ltb-true (digits_value 10 word) limit b))
judged limit word (Err x) false b e h some = rw (e, b) refl

some_digit : (word : List ℕ) → is_numeral word ≡ true → 0 < length word
some_digit [] e = absurd cc
some_digit (d ∷ ds) e = omega arith

pub parsed : {E : Type 0} (k : ℕ) (word : List ℕ) (r : Result ℕ E) → ParsesUnsigned k 10 word r → is_numeral word ≡ true
    → result_ok r ≡ number_below (2 ^ k) word
parsed k word r h e =
    judged (2 ^ k) word r (nat_lt (digits_value 10 word) (2 ^ k)) refl e (parse_digits model k word r h (digits word e)) (some_digit word e)

pub no_number : (limit : ℕ) (word : List ℕ) → is_numeral word ≡ false → None ≡ number_below limit word
unfolding number_below
no_number limit word e = rw e refl
