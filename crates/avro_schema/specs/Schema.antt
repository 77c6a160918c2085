-- What a text declares.
use Rattle.std.specs.Prelude.{◌≡◌, ◌≢◌, ℕ, List, Some, Result, Ok, Err}
use Rattle.serde_json.specs.Data.{Data}
use Rattle.serde_json.specs.Read.{read}
use Rattle.serde_json.specs.Written.{compact_text}
use Rattle.spec_schema.specs.declared.schema_error.SchemaError.{SchemaError}
use Rattle.spec_schema.specs.declared.schema_error.SchemaError.TheVariants.{NoMemory}
use Rattle.spec_avro.specs.Node.{Node}
use Rattle.spec_schema.specs.Schema.{Declaration, nodes_in, schema_of}

-- the text is the compact one of the value that it reads as
pub record IsCompact (text : List ℕ) (value : Data) : Type 0 where
  pub reads : read text ≡ Some value
  pub compact : text ≡ compact_text value

-- and that value declares the nodes
pub record TextGives (text : List ℕ) (nodes : List Node) : Type 0 where
  pub value : Data
  pub is_compact : IsCompact text value
  pub gives : nodes_in value ≡ Ok nodes

-- The answer is what the text declares, unless memory ran out. Its own text is the compact one of the value that was
-- read.
abbrev pub Parses : Result Declaration SchemaError → List ℕ → Type 0
Parses (Ok s) text = (schema_of text ≡ Ok s.nodes) × (d : Data) × (read text ≡ Some d) × (s.text ≡ compact_text d)
Parses (Err e) text = e ≢ NoMemory → schema_of text ≡ Err e
