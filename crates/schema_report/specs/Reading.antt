-- A schema in a line. The lines are this project's own.
use Rattle.std.specs.Prelude.{◌≡◌, ℕ, List, if◌then◌else◌, Result, Err}
use Rattle.std.specs.Str.{is_utf8}
use Rattle.spec_avro.specs.Node.{Node}
use Rattle.spec_schema.specs.Schema.{schema_of}
use Rattle.spec_schema.specs.declared.schema_error.SchemaError.{SchemaError}
use Rattle.spec_schema.specs.declared.schema_error.SchemaError.TheVariants.{NotJson}
use Rattle.schema_report.specs.declared.refusal.Refusal.{Refusal}
use Rattle.schema_report.specs.declared.refusal.Refusal.TheVariants.{NoMemory, BadSchema}

-- the nodes of a schema line, or its first fault: bytes that are no UTF-8 are no JSON
abbrev pub schema_of_line : List ℕ → Result (List Node) SchemaError
schema_of_line line = if is_utf8 line then schema_of line else Err NotJson

-- the line of this number is refused, by the first fault of its schema
pub record IsBadLine (line : List ℕ) (number : ℕ) (refusal : Refusal) : Type 0 where
  pub error : SchemaError
  pub refused : refusal ≡ BadSchema number error
  pub fault : schema_of_line line ≡ Err error

-- a refusal that is not for want of memory has the fault of this line
abbrev pub IsOfText : Refusal → List ℕ → Type 0
IsOfText NoMemory line = Unit {0}
IsOfText (BadSchema number error) line = schema_of_line line ≡ Err error
