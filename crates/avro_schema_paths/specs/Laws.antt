-- What the nodes that a value declares have to do with paths in it.
use Rattle.std.specs.Prelude.{◌≡◌, ℕ, ◌<◌, List, Some, length}
use Rattle.serde_json.specs.Data.{Data}
use Rattle.serde_json.specs.Read.{read}
use Rattle.spec_avro.specs.Node.{Node}
use Rattle.spec_schema.specs.SchemaLaw.{DeclaresSchema, ReadsAsSchema}
use Rattle.avro_schema_paths.specs.Places.{IsPathOf, Path}

-- each node has a path
abbrev pub EachNodeHasPath : Type 0
EachNodeHasPath = (value : Data) (nodes : List Node) → DeclaresSchema value nodes → (k : ℕ) → k < length nodes
    → (q : Path) × IsPathOf nodes value k q

-- and no other
abbrev pub EachNodeHasOnePath : Type 0
EachNodeHasOnePath = (value : Data) (nodes : List Node) → DeclaresSchema value nodes → (k : ℕ) (q r : Path)
    → IsPathOf nodes value k q → IsPathOf nodes value k r → q ≡ r

-- what has a path is a node
abbrev pub OnlyNodesHavePaths : Type 0
OnlyNodesHavePaths = (value : Data) (nodes : List Node) → DeclaresSchema value nodes → (k : ℕ) (q : Path)
    → IsPathOf nodes value k q → k < length nodes

-- the text of a schema reads as one value, and that value declares the schema's nodes
abbrev pub ReadValueIsDeclared : Type 0
ReadValueIsDeclared = (text : List ℕ) (nodes : List Node) (value : Data) → ReadsAsSchema text nodes
    → read text ≡ Some value → DeclaresSchema value nodes
