-- Small steps on answers that are true or false, and on options.
use Rattle.std.proofs.Common.{◌≡◌, ℕ, Bool, true, false, eqb, not, ◌&&◌, ◌||◌, Option, Some, None, is_some, refl, sym, arith}
use Rattle.std.proofs.lemmas.Bool.Decides.{nat_tests}

pub both : (a b : Bool) → (a && b) ≡ true → (a ≡ true) × (b ≡ true)
both true b e = (refl, e)
both false b e = absurd (let no : ⊥ = cc in no)

pub neither : (a b : Bool) → (a || b) ≡ false → (a ≡ false) × (b ≡ false)
neither true b e = absurd (let no : ⊥ = cc in no)
neither false b e = (refl, e)

pub not_true : (b : Bool) → not b ≡ true → b ≡ false
not_true true e = absurd (let no : ⊥ = cc in no)
not_true false e = refl

pub and_true : (b : Bool) → (b && true) ≡ b
and_true true = refl
and_true false = refl

pub or_true : (b : Bool) → (b || true) ≡ true
or_true true = refl
or_true false = refl

pub or_false : (b : Bool) → (b || false) ≡ b
or_false true = refl
or_false false = refl

pub no_true : (b : Bool) → b ≡ true → b ≡ false → ⊥
no_true true e f = cc
no_true false e f = cc

pub false_by : (b : Bool) → (b ≡ true → ⊥) → b ≡ false
false_by true never = absurd (never refl)
false_by false never = refl

pub same_by : (b c : Bool) → (b ≡ true → c ≡ true) → (c ≡ true → b ≡ true) → b ≡ c
same_by true c f g = sym (f refl)
same_by false true f g = g refl
same_by false false f g = refl

pub same_number : (n m : ℕ) → n ≡ m → eqb n m ≡ true
same_number n m e = grind (arith, nat_tests, e)

-- ---- options

pub some_inside : {A : Type 0} (a b : A) → Some a ≡ Some b → a ≡ b
some_inside a b e = cc

pub none_some : {A : Type 0} (a : A) → None ≡ Some a → ⊥
none_some a e = cc

pub is_nowhere : {A : Type 0} (o : Option A) → is_some o ≡ false → o ≡ None
is_nowhere None e = refl
is_nowhere (Some a) e = absurd (let no : ⊥ = cc in no)
