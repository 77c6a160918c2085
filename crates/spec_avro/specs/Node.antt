-- What a schema declares (Avro 1.11, "Schema Declaration"): nodes that name each other by their numbers.
use Rattle.std.specs.Prelude.{ℕ, List, Option}
use Rattle.spec_avro.specs.Datum.{Datum}

-- a full name, and the aliases as full names ("Names", "Aliases")
pub record Names : Type 0 where
  pub full : List ℕ
  pub aliases : List (List ℕ)

-- a field of a record, its aliases, the node that is its type, and what a reader takes where the writer has no such
-- field
pub record FieldNode : Type 0 where
  pub name : List ℕ
  pub aliases : List (List ℕ)
  pub node : ℕ
  pub default : Option Datum

-- what a node is
pub data Node : Type 0 where
  NullNode : Node
  BooleanNode : Node
  IntNode : Node
  LongNode : Node
  BytesNode : Node
  TextNode : Node
  -- the names, and how many bytes
  FixedNode : Names → ℕ → Node
  -- the names, the symbols, and the position of the default
  EnumNode : Names → List (List ℕ) → Option ℕ → Node
  -- the node of the items
  ArrayNode : ℕ → Node
  -- the node of the values
  MapNode : ℕ → Node
  -- the nodes of the branches
  UnionNode : List ℕ → Node
  -- the names, and the fields
  RecordNode : Names → List FieldNode → Node

abbrev pub names_of : List ℕ → List (List ℕ) → Names
names_of full aliases = record { full = full; aliases = aliases }
