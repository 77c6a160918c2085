-- The digits of runs of bytes, one after the other.
use Rattle.std.proofs.Common.{ℕ, List, [], ◌∷◌, ◌++◌, ◌≡◌, refl, sym, ap, ◌∙◌, append_assoc, append-nil}
use Rattle.hex.specs.Hex.{encode_lower, encode_with, lower_digits}

digits_append : (digits first rest : List ℕ) → encode_with digits (first ++ rest) ≡ encode_with digits first ++ encode_with digits rest
unfolding encode_with
digits_append digits [] rest = refl
digits_append digits (byte ∷ more) rest = rw (digits_append digits more rest) refl

-- one piece more is appended
pub appended : (out new text piece later rest all : List ℕ) → new ≡ out ++ text → text ≡ encode_lower piece → rest ≡ piece ++ later
    → out ++ encode_lower rest ≡ all → new ++ encode_lower later ≡ all
appended out new text piece later rest all grown digits cut so_far =
    let parts : encode_lower rest ≡ encode_lower piece ++ encode_lower later =
    ap encode_lower cut ∙ digits_append lower_digits piece later in
    ap (λ (xs : List ℕ). xs ++ encode_lower later) (grown ∙ ap (λ (xs : List ℕ). out ++ xs) digits)
    ∙ append_assoc out (encode_lower piece) (encode_lower later)
    ∙ ap (λ (xs : List ℕ). out ++ xs) (sym parts) ∙ so_far

-- where no byte is left, all are there
pub ended : (out rest all : List ℕ) → rest ≡ [] → out ++ encode_lower rest ≡ all → out ≡ all
unfolding encode_with
ended out rest all none so_far =
    sym (append-nil out) ∙ ap (λ (xs : List ℕ). out ++ encode_lower xs) (sym none) ∙ so_far
