-- The name of a subject is text.
use Rattle.std.proofs.Common.{◌≡◌, ◌<◌, ℕ, zero, suc, List, [], ◌∷◌, ◌&&◌, get_or, Bool, true, false, refl, rules, arith, IsUtf8}
use Rattle.std.specs.List.{list_all}
use Rattle.std.proofs.lemmas.Bool.{false_from_ne_true}
use Rattle.std.proofs.lemmas.Bool.Decides.{nat_tests}
use Rattle.std.proofs.lemmas.Str.{IsUtf8-from_ascii}
use Rattle.spec_registry.specs.Subject.{is_subject, is_subject_byte}

both : (a b : Bool) → (a && b) ≡ true → (a ≡ true) × (b ≡ true)
both true b is = (refl, is)
both false b is = cc

is_ascii : (b : ℕ) → is_subject_byte b ≡ true → b < 128
is_ascii b is = grind (arith, nat_tests)

are_ascii : (text : List ℕ) → list_all is_subject_byte text ≡ true → (i : ℕ) → get_or text i 0 < 128
are_ascii [] is i = search (rules, arith)
are_ascii (b ∷ bs) is zero = is_ascii b (both (is_subject_byte b) (list_all is_subject_byte bs) is).0
are_ascii (b ∷ bs) is (suc i) = are_ascii bs (both (is_subject_byte b) (list_all is_subject_byte bs) is).1 i

pub no_subject : (text : List ℕ) → (IsUtf8 text → ⊥) → is_subject text ≡ false
no_subject text not =
    false_from_ne_true (is_subject text) (λ is. not (IsUtf8-from_ascii text (are_ascii text (both _ (list_all is_subject_byte text) is).1)))
