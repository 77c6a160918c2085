-- What is known of a node before its parts are known: enough for names, references, and branches of one type (Avro
-- 1.11, "Unions").
use Rattle.std.specs.Prelude.{ℕ, List, [], ◌∷◌, ◌++◌, map, Bool, true, false, not, ◌&&◌, Option, slice_index_or}
use Rattle.std.specs.List.{list_any, position_from}
use Rattle.std.specs.Str.{bytes_eq}
use Rattle.spec_schema.specs.Draft.{Draft, Whole, RecordDraft}
use Rattle.spec_avro.specs.Node.{Node, NullNode, BooleanNode, IntNode, LongNode, BytesNode, TextNode, FixedNode, EnumNode, ArrayNode, MapNode, UnionNode, RecordNode}

pub data Head : Type 0 where
  NullHead : Head
  BooleanHead : Head
  IntHead : Head
  LongHead : Head
  BytesHead : Head
  TextHead : Head
  ArrayHead : Head
  MapHead : Head
  UnionHead : Head
  -- a record, an enum or a fixed under its full name
  Named : List ℕ → Head

abbrev pub head_of_node : Node → Head
head_of_node NullNode = NullHead
head_of_node BooleanNode = BooleanHead
head_of_node IntNode = IntHead
head_of_node LongNode = LongHead
head_of_node BytesNode = BytesHead
head_of_node TextNode = TextHead
head_of_node (FixedNode names size) = Named names.full
head_of_node (EnumNode names symbols default) = Named names.full
head_of_node (ArrayNode n) = ArrayHead
head_of_node (MapNode n) = MapHead
head_of_node (UnionNode members) = UnionHead
head_of_node (RecordNode names fields) = Named names.full

abbrev pub head_of : Draft → Head
head_of (Whole n) = head_of_node n
head_of (RecordDraft names fields) = Named names.full

abbrev pub heads_of : List Draft → List Head
heads_of ds = map head_of ds

abbrev pub is_union_head : Head → Bool
is_union_head UnionHead = true
is_union_head _ = false

-- whether it is the definition of a full name
abbrev pub defines : List ℕ → Head → Bool
defines full (Named name) = bytes_eq name full
defines full _ = false

-- "Unions may not contain more than one schema with the same type, except for the named types record, fixed and enum."
abbrev pub is_same_type : Head → Head → Bool
is_same_type NullHead NullHead = true
is_same_type BooleanHead BooleanHead = true
is_same_type IntHead IntHead = true
is_same_type LongHead LongHead = true
is_same_type BytesHead BytesHead = true
is_same_type TextHead TextHead = true
is_same_type ArrayHead ArrayHead = true
is_same_type MapHead MapHead = true
is_same_type UnionHead UnionHead = true
is_same_type (Named full) head = defines full head
is_same_type _ _ = false

-- the node that defines a full name
unfoldable pub defined_at : List ℕ → List Head → Option ℕ
defined_at full heads = position_from (defines full) 0 heads

-- the head of a node; that of no node is a union's, which is no union's branch
abbrev pub head_at : List Head → ℕ → Head
head_at heads n = slice_index_or heads n UnionHead

-- no union among these, and none of the type of one before
abbrev pub are_apart : List Head → List Head → Bool
are_apart before [] = true
are_apart before (h ∷ hs) =
    (not (is_union_head h) && not (list_any (is_same_type h) before)) && are_apart (before ++ h ∷ []) hs
