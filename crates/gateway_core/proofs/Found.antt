-- What is known of a value that is there.
use Rattle.std.proofs.Common.{◌≡◌, Option, Some, IfSome, subst}

pub at_some : {A : Type 0} (P : A → Type 0) (o : Option A) (x : A) → o ≡ Some x → IfSome o P → P x
at_some P o x is some = subst (λ p. IfSome p P) is some
