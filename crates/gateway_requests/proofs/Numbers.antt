-- Numbers up to a bound.
use Rattle.std.proofs.Common.{◌≡◌, ℕ, ◌+◌, ◌-◌, ◌*◌, ◌<◌, List, [], ◌∷◌, drop, get_or, length, min, sym, ap, ◌∙◌, arith, add-one}
use Rattle.std.proofs.Math.Seq.{drop-cons}
use Rattle.spec_service.specs.Digits.{number_after}

-- a bound at each digit is a bound at the end
pub bounded_after : (digits : List ℕ) (value most : ℕ)
    → min (number_after (min value most) digits) most ≡ min (number_after value digits) most
bounded_after [] value most = omega arith
bounded_after (d ∷ ds) value most =
    sym (bounded_after ds (min value most * 10 + (d - 48)) most)
    ∙ ap (λ (n : ℕ). min (number_after n ds) most)
    (let e : min (min value most * 10 + (d - 48)) most ≡ min (value * 10 + (d - 48)) most = omega arith in e)
    ∙ bounded_after ds (value * 10 + (d - 48)) most

-- one more digit
pub bounded_more : (digits : List ℕ) (i value next most : ℕ) → i < length digits
    → next ≡ min (value * 10 + (get_or digits i 0 - 48)) most
    → min (number_after next (drop (i + 1) digits)) most ≡ min (number_after value (drop i digits)) most
bounded_more digits i value next most within is =
    ap (λ (n : ℕ). min (number_after n (drop (i + 1) digits)) most) is
    ∙ bounded_after (drop (i + 1) digits) (value * 10 + (get_or digits i 0 - 48)) most
    ∙ ap (λ (rest : List ℕ). min (number_after value rest) most)
    (let e : get_or digits i 0 ∷ drop (i + 1) digits ≡ drop i digits = sym (rw add-one (drop-cons digits i 0 within)) in e)
