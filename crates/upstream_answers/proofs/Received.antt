-- What was taken from a reader.
use Rattle.std.proofs.Common.{◌≡◌, ℕ, List, [], ◌∷◌, ◌++◌, length, Option, Some, None, IfSome, refl, ap, ◌∙◌, arith}
use Rattle.std.proofs.KnownBytes.{Consumes-trans}
use Rattle.std.specs.Io.KnownBytes.{Consumes, IsAtEnd}

none_of : (xs : List ℕ) → length xs ≡ 0 → xs ≡ []
none_of [] none = refl
none_of (x ∷ xs) none = absurd (let e : ⊥ = omega (arith, none) in e)

-- a reader that has ended, and gave no byte, had none
pub had_none : (old mid new : Option (List ℕ)) (before more : List ℕ) → Consumes old mid before
    → Consumes mid new more → length before ≡ 0
    → length more ≡ 0 → IsAtEnd new → IfSome old (λ left. left ≡ [])
had_none None mid new before more taken last no_before no_more at_end = tt
had_none (Some x) None new before more taken last no_before no_more at_end = absurd taken
had_none (Some x) (Some y) None before more taken last no_before no_more at_end = absurd last
had_none (Some x) (Some y) (Some z) before more taken last no_before no_more at_end =
    taken ∙ ap (λ b. b ++ y) (none_of before no_before) ∙ last ∙ ap (λ b. b ++ z) (none_of more no_more) ∙ at_end

-- one more part was taken
pub taken_more : (a b c : Option (List ℕ)) (xs ys now : List ℕ) → Consumes a b xs → Consumes b c ys
    → now ≡ xs ++ ys → Consumes a c now
taken_more a b c xs ys now before more is = rw is (Consumes-trans a b c xs ys before more)
