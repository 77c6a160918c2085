-- Steps, one after another: what they give, or the first fault. All of this is this project's own.
use Rattle.std.specs.Prelude.{Result, Ok, Err}
use Rattle.spec_service.specs.declared.fault.Fault.{Fault}

infixl 10 ◌>>=◌
-- one step, and then another on what it gave; or the fault of the first
abbrev pub ◌>>=◌ : {A B : Type 0} → Result A Fault → (A → Result B Fault) → Result B Fault
Ok x >>= f = f x
Err e >>= f = Err e
