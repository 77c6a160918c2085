-- Of which texts which nodes are the schema (Avro 1.11, "Schema Declaration").
use Rattle.std.specs.Prelude.{◌≡◌, ◌≤◌, ◌↔◌, ℕ, List, [], length, false, Some, Ok, Err}
use Rattle.serde_json.specs.Data.{Data}
use Rattle.serde_json.specs.Read.{read}
use Rattle.serde_json.specs.Written.{has_float}
use Rattle.spec_avro.specs.declared.limits.TheConstants.{MOST_TEXT}
use Rattle.spec_avro.specs.Node.{Node}
use Rattle.spec_schema.specs.declared.schema_error.SchemaError.{SchemaError}
use Rattle.spec_schema.specs.Declaring.{Declares}
use Rattle.spec_schema.specs.DefaultData.{AreNodesOf}
use Rattle.spec_schema.specs.Draft.{Draft}
use Rattle.spec_schema.specs.Names.{null_namespace}
use Rattle.spec_schema.specs.Schema.{schema_of}

-- the value declares nodes in the null namespace, the root the first of them, and the defaults are data of their types
pub record DeclaresSchema (value : Data) (nodes : List Node) : Type 0 where
  pub drafts : List Draft
  pub declares : Declares value null_namespace [] 0 drafts
  pub defaults : AreNodesOf drafts drafts nodes

-- The text reads as such a value. That no number in it is a fraction or too large is this project's own rule.
pub record ReadsAsSchema (text : List ℕ) (nodes : List Node) : Type 0 where
  pub value : Data
  pub reads : read text ≡ Some value
  pub no_float : has_float value ≡ false
  pub declares : DeclaresSchema value nodes

-- how long it may be is this project's own
pub record IsSchema (text : List ℕ) (nodes : List Node) : Type 0 where
  pub short : length text ≤ MOST_TEXT
  pub reads : ReadsAsSchema text nodes

-- the nodes of a text are those of its schema, and no others
abbrev pub NodesAreThoseDeclared : Type 0
NodesAreThoseDeclared = (text : List ℕ) (nodes : List Node) → (schema_of text ≡ Ok nodes) ↔ IsSchema text nodes

-- and so a fault is reported exactly where the text declares none; the walk only decides which comes first
abbrev pub FaultsWhereNoneIsDeclared : Type 0
FaultsWhereNoneIsDeclared = (text : List ℕ)
    → ((e : SchemaError) × (schema_of text ≡ Err e)) ↔ ((nodes : List Node) → ¬ (IsSchema text nodes))
