-- Steps, one after another: what they give, or the first fault. This project's own.
use Rattle.std.specs.Prelude.{Bool, true, false, Result, Ok, Err, ⊤}
use Rattle.spec_schema.specs.declared.schema_error.SchemaError.{SchemaError}

infixl 10 ◌>>=◌
abbrev pub ◌>>=◌ : {A B : Type 0} → Result A SchemaError → (A → Result B SchemaError) → Result B SchemaError
Ok x >>= f = f x
Err e >>= f = Err e

abbrev pub require : Bool → SchemaError → Result ⊤ SchemaError
require true e = Ok tt
require false e = Err e
