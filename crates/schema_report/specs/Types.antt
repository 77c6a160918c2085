-- Types in words (Avro 1.11, "Schema Declaration", "Names"). The texts are this project's own.
use Rattle.std.specs.Prelude.{ℕ, zero, suc, List, [], ◌++◌, Option, Some, None, codes, slice_get}
use Rattle.spec_avro.specs.Node.{Node, NullNode, BooleanNode, IntNode, LongNode, BytesNode, TextNode, FixedNode, EnumNode, ArrayNode, MapNode, UnionNode, RecordNode}
use Rattle.spec_avro.specs.Matching.{both_items, both_values}
use Rattle.spec_avro.specs.Options.{given}

-- the standard's word for what a node is
abbrev pub kind_word : Node → List ℕ
kind_word NullNode = codes "null"
kind_word BooleanNode = codes "boolean"
kind_word IntNode = codes "int"
kind_word LongNode = codes "long"
kind_word BytesNode = codes "bytes"
kind_word TextNode = codes "string"
kind_word (FixedNode names size) = codes "fixed"
kind_word (EnumNode names symbols default) = codes "enum"
kind_word (ArrayNode item) = codes "array"
kind_word (MapNode value) = codes "map"
kind_word (UnionNode members) = codes "union"
kind_word (RecordNode names fields) = codes "record"

-- a full name, after a space
abbrev pub name_text : List ℕ → List ℕ
name_text full = codes " " ++ full

-- the full name of a named type
abbrev pub full_name_text : Node → List ℕ
full_name_text (FixedNode names size) = name_text names.full
full_name_text (EnumNode names symbols default) = name_text names.full
full_name_text (RecordNode names fields) = name_text names.full
full_name_text _ = []

abbrev pub type_text : Node → List ℕ
type_text node = kind_word node ++ full_name_text node

-- what a node of a schema is, in words
abbrev pub type_at : List Node → ℕ → List ℕ
type_at nodes node = type_in (slice_get nodes node)
  where
    type_in : Option Node → List ℕ
    type_in None = []
    type_in (Some node) = type_text node

-- The type of a node beside a node of another schema, in words: as long as both are arrays or both are maps, the word
-- for that and then the type of what they hold, by at most this many steps.
abbrev pub type_beside : ℕ → List Node → ℕ → List Node → ℕ → List ℕ
type_beside zero nodes node others other = type_at nodes node
type_beside (suc steps) nodes node others other =
    given (both_items (slice_get nodes node) (slice_get others other))
    (given (both_values (slice_get nodes node) (slice_get others other)) (type_at nodes node)
    (λ p. codes "map of " ++ type_beside steps nodes p.0 others p.1))
    (λ p. codes "array of " ++ type_beside steps nodes p.0 others p.1)
