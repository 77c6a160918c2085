-- What holds of the nodes of every schema (Avro 1.11, "Schema Declaration").
use Rattle.std.specs.Prelude.{◌≡◌, ℕ, ◌<◌, ◌≤◌, ◌⊎◌, List, length, map, Bool, true, false, Option, Some, None, is_some, IfSome, slice_get}
use Rattle.std.specs.List.{AllByRecursion, IsDistinct}
use Rattle.std.specs.Str.{bytes_eq}
use Rattle.spec_avro.specs.Node.{Node, FieldNode, NullNode, BooleanNode, IntNode, LongNode, BytesNode, TextNode, FixedNode, EnumNode, ArrayNode, MapNode, UnionNode, RecordNode}
use Rattle.spec_avro.specs.declared.limits.TheConstants.{MOST_FIELDS, MOST_FIXED, MOST_NODES, MOST_SYMBOLS}

-- the types of the fields are among the first `len` nodes
abbrev pub FieldsBelow : ℕ → List FieldNode → Type 0
FieldsBelow len fs = AllByRecursion (λ f. f.node < len) fs

-- "Fields": no two fields of one record have one name
abbrev pub HaveDistinctNames : List FieldNode → Type 0
HaveDistinctNames fs = IsDistinct bytes_eq (map (λ f. f.name) fs)

abbrev pub is_union : Option Node → Bool
is_union (Some (UnionNode members)) = true
is_union _ = false

-- the full name of a record, an enum or a fixed: "Record, enums and fixed are named types"
abbrev pub full_name_of : Option Node → Option (List ℕ)
full_name_of (Some (FixedNode names size)) = Some names.full
full_name_of (Some (EnumNode names symbols default)) = Some names.full
full_name_of (Some (RecordNode names fields)) = Some names.full
full_name_of _ = None

abbrev pub is_named : Option Node → Bool
is_named node = is_some (full_name_of node)

-- "Unions may not contain more than one schema with the same type, except for the named types record, fixed and
-- enum", of which none has another's name
abbrev pub are_of_one_type : Option Node → Option Node → Bool
are_of_one_type (Some NullNode) (Some NullNode) = true
are_of_one_type (Some BooleanNode) (Some BooleanNode) = true
are_of_one_type (Some IntNode) (Some IntNode) = true
are_of_one_type (Some LongNode) (Some LongNode) = true
are_of_one_type (Some BytesNode) (Some BytesNode) = true
are_of_one_type (Some TextNode) (Some TextNode) = true
are_of_one_type (Some (ArrayNode item)) (Some (ArrayNode other)) = true
are_of_one_type (Some (MapNode value)) (Some (MapNode other)) = true
are_of_one_type w r = have_one_name (full_name_of w) (full_name_of r)
  where
    have_one_name : Option (List ℕ) → Option (List ℕ) → Bool
    have_one_name (Some full) (Some other) = bytes_eq full other
    have_one_name _ _ = false

-- the node of items, values or a branch of the node own: it comes later, or is of a named type, so that each
-- recursion goes by a name
abbrev pub IsPartOf : List Node → ℕ → ℕ → Type 0
IsPartOf nodes own part = (own < part) ⊎ (is_named (slice_get nodes part) ≡ true)

-- the node of the items or values of the node own
pub record HoldsItem (nodes : List Node) (own item : ℕ) : Type 0 where
  pub below : item < length nodes
  pub part : IsPartOf nodes own item

-- a branch of the union own: "Unions may not immediately contain other unions"
pub record IsMember (nodes : List Node) (own member : ℕ) : Type 0 where
  pub below : member < length nodes
  pub no_union : is_union (slice_get nodes member) ≡ false
  pub part : IsPartOf nodes own member

-- no two branches are of one type
abbrev pub AreApart : List Node → List ℕ → Type 0
AreApart nodes members = IsDistinct are_of_one_type (map (slice_get nodes) members)

-- the node own names nodes of the same schema, its fields, symbols and members apart; how many there may be is this
-- project's own
abbrev pub NodeIsWellFormed : List Node → ℕ → Node → Type 0
NodeIsWellFormed nodes own (FixedNode names size) = size ≤ MOST_FIXED
NodeIsWellFormed nodes own (EnumNode names symbols default) =
    IsDistinct bytes_eq symbols × (length symbols ≤ MOST_SYMBOLS) × IfSome default (λ n. n < length symbols)
NodeIsWellFormed nodes own (ArrayNode item) = HoldsItem nodes own item
NodeIsWellFormed nodes own (MapNode value) = HoldsItem nodes own value
NodeIsWellFormed nodes own (UnionNode members) =
    AllByRecursion (IsMember nodes own) members × (length members ≤ MOST_NODES) × AreApart nodes members
NodeIsWellFormed nodes own (RecordNode names fs) =
    FieldsBelow (length nodes) fs × HaveDistinctNames fs × (length fs ≤ MOST_FIELDS)
NodeIsWellFormed nodes own _ = Unit {0}

-- there is a root, and each node is well formed; "a schema or protocol may not contain multiple definitions of a
-- fullname"
pub record IsWellFormed (nodes : List Node) : Type 0 where
  pub root : 0 < length nodes
  pub few : length nodes ≤ MOST_NODES
  pub each : (own : ℕ) (node : Node) → slice_get nodes own ≡ Some node → NodeIsWellFormed nodes own node
  pub named_once : (m n : ℕ) (full : List ℕ) → full_name_of (slice_get nodes m) ≡ Some full
      → full_name_of (slice_get nodes n) ≡ Some full → m ≡ n
