-- The check at the end of a line.
use Rattle.std.proofs.Common.{◌≡◌, ◌∙◌, ℕ, ◌+◌, ◌-◌, ◌≤◌, List, ◌∷◌, ◌++◌, length, take, drop, take-append-drop, sym, ap, arith, length-append}
use Rattle.std.proofs.lemmas.List.{drop_at, length-take-le, take_at}
use Rattle.hex.proofs.HexLemmas.{length-encode_with}
use Rattle.hex.specs.Hex.{lower_digits}
use Rattle.sha2.proofs.Facts256.{length-sha256}
use Rattle.sha2.specs.Sha256.{sha256}
use Rattle.registry_store.specs.Line.{HasCheck, check_of, checked}
use Rattle.registry_store.specs.declared.format.TheConstants.{SPACE}

-- a check has 16 digits
pub length-check_of : (body : List ℕ) → length (check_of body) ≡ 16
unfolding check_of
length-check_of body =
    let whole = length-sha256 body in
    let front : length (take 8 (sha256 body)) ≡ 8 = length-take-le 8 (sha256 body) (omega (arith, whole)) in
    let digits = length-encode_with lower_digits (take 8 (sha256 body)) in
    omega (arith, digits, front)

-- where the check begins in a line that has one
pub record IsCut (line body : List ℕ) : Type 0 where
  pub long : 17 ≤ length line
  pub front : take (length line - 17) line ≡ body
  pub end : drop (length line - 17) line ≡ SPACE ∷ check_of body

pub IsCut-checked : (line body : List ℕ) → line ≡ checked body → IsCut line body
IsCut-checked line body e =
    let digits = length-check_of body in
    let whole : length line ≡ length body + length (SPACE ∷ check_of body) = ap length e ∙ length-append body _ in
    let at : length body ≡ length line - 17 = omega (arith, whole, digits) in
    record {
      long = omega (arith, whole, digits);
      front = ap (take (length line - 17)) e ∙ take_at body _ _ at;
      end = ap (drop (length line - 17)) e ∙ drop_at body _ _ at;
    }

-- a line whose end is the check of its front
pub checked_from_cut : (line body end : List ℕ) (n : ℕ) → body ≡ take n line → end ≡ drop n line → end ≡ SPACE ∷ check_of body → line ≡ checked body
checked_from_cut line body end n front back same =
    sym (take-append-drop n line) ∙ ap (λ x. x ++ drop n line) (sym front) ∙ ap (λ x. body ++ x) (sym back ∙ same)

-- a line whose end is not
pub no_check_from_cut : (line body end : List ℕ) (n : ℕ) → n ≡ length line - 17 → body ≡ take n line → end ≡ drop n line → (end ≡ SPACE ∷ check_of body → ⊥) → HasCheck line → ⊥
no_check_from_cut line body end n at front back other found =
    let cut = IsCut-checked line found.0 found.1 in
    let same : body ≡ found.0 = front ∙ ap (λ k. take k line) at ∙ cut.front in
    other (back ∙ ap (λ k. drop k line) at ∙ cut.end ∙ ap (λ x. SPACE ∷ check_of x) (sym same))

-- a line has one body
pub checked_injective : (a b : List ℕ) → checked a ≡ checked b → a ≡ b
checked_injective a b e = sym (IsCut-checked (checked a) a (λ i. checked a)).front ∙ (IsCut-checked (checked a) b e).front
