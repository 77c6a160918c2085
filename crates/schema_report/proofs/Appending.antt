-- Texts that are added one after another.
use Rattle.std.proofs.Common.{◌≡◌, ◌++◌, ◌==◌, ℕ, Bool, true, false, IsTrue, arith, List, [], ◌∷◌, length, Result, OnOk, refl, subst, ◌∙◌, ap, append_assoc}
use Rattle.std.proofs.lemmas.Bool.Decides.{nat_tests}
use Rattle.std.proofs.lemmas.Result.{on_ok_weaker}

-- one more text, after one that was added
pub one_more : {T E : Type 0} (r : Result T E) (old mid new x y : List ℕ) → mid ≡ old ++ x → OnOk r (new ≡ mid ++ y) → OnOk r (new ≡ old ++ (x ++ y))
one_more r old mid new x y first then_more =
    on_ok_weaker r (λ (e : new ≡ mid ++ y). e ∙ ap (λ (l : List ℕ). l ++ y) first ∙ append_assoc old x y) then_more

-- what a list is that is found to be empty
pub empty_is : {A : Type 0} (xs : List A) (b : Bool) → b ≡ (length xs == 0) → IsTrue b → xs ≡ []
empty_is [] b is empty = refl
empty_is (x ∷ xs) b is empty = absurd (let some : (length (x ∷ xs) == 0) ≡ false = grind (arith, nat_tests) in let never : IsTrue false = subst (λ (t : Bool). IsTrue t) (is ∙ some) empty in grind (arith, never))

pub is_empty_of : {A : Type 0} (xs : List A) (b : Bool) → b ≡ (length xs == 0) → xs ≡ [] → IsTrue b
is_empty_of xs b is e =
    let none : (length xs == 0) ≡ true = rw e refl in
    let found : b ≡ true = is ∙ none in
    grind (arith, found)
