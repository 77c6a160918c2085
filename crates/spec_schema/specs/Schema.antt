-- Which nodes a text declares (Avro 1.11, "Schema Declaration").
use Rattle.std.specs.Prelude.{ℕ, List, [], length, nat_le, if◌then◌else◌, Option, Some, None, Result, Err}
use Rattle.serde_json.specs.Data.{Data}
use Rattle.serde_json.specs.Read.{read}
use Rattle.serde_json.specs.Written.{has_float}
use Rattle.spec_avro.specs.declared.limits.TheConstants.{MOST_TEXT}
use Rattle.spec_schema.specs.declared.schema_error.SchemaError.{SchemaError}
use Rattle.spec_schema.specs.declared.schema_error.SchemaError.TheVariants.{TooLarge, NotJson, BadNumber}
use Rattle.spec_schema.specs.Defaults.{finished}
use Rattle.spec_schema.specs.Steps.{◌>>=◌}
use Rattle.spec_avro.specs.Node.{Node}
use Rattle.spec_schema.specs.Names.{null_namespace}
use Rattle.spec_schema.specs.Walk.{walk}

-- a schema as callers see it: its compact text, and its nodes
pub record Declaration : Type 0 where
  pub text : List ℕ
  pub nodes : List Node

-- the nodes that a JSON value declares, or the first fault: the walk's, and then that of a default
abbrev pub declared : Data → Result (List Node) SchemaError
declared d = walk d null_namespace [] >>= λ p. finished p.1

abbrev pub nodes_in : Data → Result (List Node) SchemaError
nodes_in d = if has_float d then Err BadNumber else declared d

abbrev pub nodes_in_read : Option Data → Result (List Node) SchemaError
nodes_in_read None = Err NotJson
nodes_in_read (Some d) = nodes_in d

-- the nodes of a text, or its first fault
unfoldable pub schema_of : List ℕ → Result (List Node) SchemaError
schema_of text = if nat_le (length text) MOST_TEXT then nodes_in_read (read text) else Err TooLarge
