-- What holds of the value of a result that is no error.
use Rattle.std.proofs.Common.{Result, Ok, Err}
use Rattle.spec_schema.specs.declared.schema_error.SchemaError.{SchemaError}

abbrev pub Told : {A : Type 0} → (A → Type 0) → Result A SchemaError → Type 0
Told P (Ok a) = P a
Told P (Err e) = Unit {0}
