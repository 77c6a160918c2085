-- Which nodes match, as a relation (Avro 1.11, "Schema Resolution": "To match, one of the following must hold").
use Rattle.std.specs.Prelude.{◌≡◌, ◌↔◌, ℕ, true, List, Option, Some, slice_get}
use Rattle.spec_avro.specs.FullNames.{unqualified}
use Rattle.spec_avro.specs.Node.{Node, Names, FieldNode, NullNode, BooleanNode, IntNode, LongNode, BytesNode, TextNode, FixedNode, EnumNode, ArrayNode, MapNode, UnionNode, RecordNode}
use Rattle.spec_avro.specs.WellFormed.{IsWellFormed}
use Rattle.spec_avro.specs.Matching.{matches}

-- the names of a writer's type and a reader's
pub data NamesMatch (w r : Names) : Type 0 where
  -- "(unqualified) names match"
  unqualified_names : unqualified w.full ≡ unqualified r.full → NamesMatch w r
  -- This project's own rule: the writer's full name is one of the reader's aliases.
  alias : (i : ℕ) → slice_get r.aliases i ≡ Some w.full → NamesMatch w r

-- "Primitive Types", less those that this project leaves out
abbrev pub IsPrimitive : Node → Type 0
IsPrimitive NullNode = Unit {0}
IsPrimitive BooleanNode = Unit {0}
IsPrimitive IntNode = Unit {0}
IsPrimitive LongNode = Unit {0}
IsPrimitive BytesNode = Unit {0}
IsPrimitive TextNode = Unit {0}
IsPrimitive _ = ⊥

-- the writer's node and the reader's node match
pub data Matches (W R : List Node) : ℕ → ℕ → Type 0 where
  -- "both schemas are arrays whose item types match"
  arrays : {w r : ℕ} (item other : ℕ) → slice_get W w ≡ Some (ArrayNode item) → slice_get R r ≡ Some (ArrayNode other)
      → Matches W R item other → Matches W R w r
  -- "both schemas are maps whose value types match"
  maps : {w r : ℕ} (value other : ℕ) → slice_get W w ≡ Some (MapNode value) → slice_get R r ≡ Some (MapNode other)
      → Matches W R value other → Matches W R w r
  -- "both schemas are enums whose (unqualified) names match"
  enums : {w r : ℕ} (names others : Names) (symbols theirs : List (List ℕ)) (default fallback : Option ℕ)
      → slice_get W w ≡ Some (EnumNode names symbols default) → slice_get R r ≡ Some (EnumNode others theirs fallback)
      → NamesMatch names others → Matches W R w r
  -- "both schemas are fixed whose sizes and (unqualified) names match"
  fixed : {w r : ℕ} (names others : Names) (size : ℕ) → slice_get W w ≡ Some (FixedNode names size)
      → slice_get R r ≡ Some (FixedNode others size) → NamesMatch names others → Matches W R w r
  -- "both schemas are records with the same (unqualified) name"
  records : {w r : ℕ} (names others : Names) (fields theirs : List FieldNode)
      → slice_get W w ≡ Some (RecordNode names fields) → slice_get R r ≡ Some (RecordNode others theirs)
      → NamesMatch names others → Matches W R w r
  -- "either schema is a union"
  writers_union : {w r : ℕ} (members : List ℕ) (other : Node) → slice_get W w ≡ Some (UnionNode members)
      → slice_get R r ≡ Some other → Matches W R w r
  readers_union : {w r : ℕ} (node : Node) (members : List ℕ) → slice_get W w ≡ Some node
      → slice_get R r ≡ Some (UnionNode members) → Matches W R w r
  -- "both schemas have same primitive type"
  primitive : {w r : ℕ} (node : Node) → IsPrimitive node → slice_get W w ≡ Some node → slice_get R r ≡ Some node
      → Matches W R w r
  -- "the writer's schema may be promoted to the reader's as follows": "int is promotable to long"
  int_to_long : {w r : ℕ} → slice_get W w ≡ Some IntNode → slice_get R r ≡ Some LongNode → Matches W R w r
  -- "string is promotable to bytes"
  string_to_bytes : {w r : ℕ} → slice_get W w ≡ Some TextNode → slice_get R r ≡ Some BytesNode → Matches W R w r
  -- "bytes is promotable to string"
  bytes_to_string : {w r : ℕ} → slice_get W w ≡ Some BytesNode → slice_get R r ≡ Some TextNode → Matches W R w r

-- What is computed is true exactly where the relation holds.
abbrev pub MatchesWhereItHolds : Type 0
MatchesWhereItHolds = (W R : List Node) (w r : ℕ) → IsWellFormed W → (matches W R w r ≡ true) ↔ Matches W R w r
