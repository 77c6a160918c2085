-- Steps in a row: what they give, or the first fault. This project's own.
use Rattle.std.specs.Prelude.{◌≡◌, ◌≢◌, Result, Ok, Err}
use Rattle.spec_service.specs.declared.fault.Fault.{Fault}
use Rattle.spec_service.specs.declared.fault.Fault.TheVariants.{NoMemory}

-- a call returned this result, unless memory ran out
abbrev pub Tells : {R A : Type 0} → (R → A) → Result R Fault → Result A Fault → Type 0
Tells view (Ok told) result = result ≡ Ok (view told)
Tells view (Err e) result = e ≢ NoMemory → result ≡ Err e
