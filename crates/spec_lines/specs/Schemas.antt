-- The schemas of an input. The lines are this project's own.
use Rattle.std.specs.Prelude.{ℕ, List, if◌then◌else◌, Result, Ok, Err}
use Rattle.std.specs.Str.{is_utf8}
use Rattle.spec_lines.specs.Lines.{line_at}
use Rattle.spec_avro.specs.Node.{Node}
use Rattle.spec_schema.specs.Schema.{schema_of}
use Rattle.spec_schema.specs.declared.schema_error.SchemaError.{SchemaError}
use Rattle.spec_schema.specs.declared.schema_error.SchemaError.TheVariants.{NotJson}
use Rattle.spec_lines.specs.declared.refusal.Refusal.{Refusal}
use Rattle.spec_lines.specs.declared.refusal.Refusal.TheVariants.{BadSchema}

-- the nodes of a schema line, or its first fault: bytes that are no UTF-8 are no JSON
abbrev pub schema_of_line : List ℕ → Result (List Node) SchemaError
schema_of_line line = if is_utf8 line then schema_of line else Err NotJson

-- where both are bad, the writer's is reported
abbrev pub both : Result (List Node) SchemaError → Result (List Node) SchemaError
    → Result (List Node × List Node) Refusal
both (Err error) reader = Err (BadSchema 1 error)
both (Ok W) (Err error) = Err (BadSchema 2 error)
both (Ok W) (Ok R) = Ok (W, R)

-- line 1 is the writer's schema, line 2 the reader's
abbrev pub schemas_of : List (List ℕ) → Result (List Node × List Node) Refusal
schemas_of inputs = both (schema_of_line (line_at inputs 0)) (schema_of_line (line_at inputs 1))
