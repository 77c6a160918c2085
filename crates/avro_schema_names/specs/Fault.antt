-- Steps in a row: what they give, or the first fault.
use Rattle.std.specs.Prelude.{◌≡◌, ◌≢◌, Result, Ok, Err}
use Rattle.spec_schema.specs.declared.schema_error.SchemaError.{SchemaError}
use Rattle.spec_schema.specs.declared.schema_error.SchemaError.TheVariants.{NoMemory}

-- the answer, seen by `f`, is the given result, unless memory ran out
abbrev pub Tells : {R A : Type 0} → (R → A) → Result R SchemaError → Result A SchemaError → Type 0
Tells f (Ok r) told = told ≡ Ok (f r)
Tells f (Err e) told = e ≢ NoMemory → told ≡ Err e
