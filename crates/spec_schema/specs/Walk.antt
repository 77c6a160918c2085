-- The walk over a schema's JSON: what each value declares, or the first fault (Avro 1.11, "Schema Declaration").
use Rattle.spec_schema.specs.Head.{are_apart, Head, ArrayHead, MapHead, UnionHead, Named, heads_of, defined_at, head_at}
use Rattle.std.specs.Prelude.{ℕ, List, [], ◌∷◌, ◌++◌, length, map, if◌then◌else◌, Option, Some, None, Result, Ok, Err, nat_lt, codes}
use Rattle.std.specs.Ordering.{nat_cmp, match_ordering}
use Rattle.std.specs.Cmp.Lexicographic.{slice_cmp}
use Rattle.serde_json.specs.Data.{Data, string, array, object, Items, no_items, item, Members, no_members, member}
use Rattle.serde_json.specs.Find.{get_member}
use Rattle.spec_avro.specs.declared.limits.TheConstants.{MOST_FIELDS, MOST_NODES}
use Rattle.spec_schema.specs.declared.schema_error.SchemaError.{SchemaError}
use Rattle.spec_schema.specs.declared.schema_error.SchemaError.TheVariants.{TooLarge, Unknown, OutOfProfile, BadUnion}
use Rattle.spec_schema.specs.declared.word.Form.{Form}
use Rattle.spec_schema.specs.declared.word.Form.TheVariants as forms
use Rattle.spec_schema.specs.Aliases.{field_aliases, new_names}
use Rattle.spec_schema.specs.Attributes.{symbols_of, default_symbol, size_of}
use Rattle.spec_schema.specs.Draft.{Draft, Whole, RecordDraft, DraftField, draft_field}
use Rattle.spec_schema.specs.Steps.{◌>>=◌}
use Rattle.spec_avro.specs.FullNames.{full_name, namespace_of}
use Rattle.spec_schema.specs.Names.{field_name}
use Rattle.spec_avro.specs.Node.{Node, FixedNode, EnumNode, ArrayNode, MapNode, UnionNode}
use Rattle.spec_schema.specs.Word.{word_of, leaf_of, is_left_out, form_of}

-- Given the enclosing namespace and the heads of the nodes so far: a value, and the nodes that it adds.
abbrev pub Walk : Type 0 → Type 0
Walk A = List ℕ → List Head → Result (A × List Draft) SchemaError

-- ---- walks, one after another

abbrev pub fault : {A : Type 0} → SchemaError → Walk A
fault e enclosing heads = Err e

abbrev pub or_unknown : {A : Type 0} → Option (Walk A) → Walk A
or_unknown None = fault Unknown
or_unknown (Some w) = w

-- a value that adds no node
abbrev pub done : {A : Type 0} → A → Walk A
done a enclosing heads = Ok (a, [])

abbrev pub added : {A : Type 0} → List Draft → Result (A × List Draft) SchemaError → Result (A × List Draft) SchemaError
added front (Ok p) = Ok (p.0, front ++ p.1)
added front (Err e) = Err e

-- one walk, then another, which knows what the first gave
unfoldable pub followed_by : {A B : Type 0} → Walk A → (A → Walk B) → Walk B
followed_by first rest enclosing heads =
    first enclosing heads >>= λ p. added p.1 (rest p.0 enclosing (heads ++ heads_of p.1))

-- ---- nodes

-- there is room for one more node
abbrev pub if_room : {A : Type 0} → Walk A → Walk A
if_room w enclosing heads = if nat_lt (length heads) MOST_NODES then w enclosing heads else Err TooLarge

-- a node that has no parts
abbrev pub one_node : Draft → Walk ℕ
one_node d enclosing heads = Ok (length heads, d ∷ [])

abbrev pub leaf : Node → Walk ℕ
leaf n = if_room (one_node (Whole n))

-- a node before its parts
unfoldable pub around : {A : Type 0} → (A → Draft) → Head → Walk A → Walk ℕ
around make head parts enclosing heads = parts enclosing (heads ++ head ∷ []) >>= λ p. Ok (length heads, make p.0 ∷ p.1)

-- ---- what a text names

abbrev pub found : Option ℕ → Result (ℕ × List Draft) SchemaError
found None = Err Unknown
found (Some n) = Ok (n, [])

unfoldable pub reference : List ℕ → Walk ℕ
reference s enclosing heads = found (defined_at (full_name enclosing s) heads)

abbrev pub leaf_or_reference : Option Node → List ℕ → Walk ℕ
leaf_or_reference (Some n) s = leaf n
leaf_or_reference None s = reference s

unfoldable pub named : List ℕ → Walk ℕ
named s = if is_left_out (word_of s) then fault OutOfProfile else leaf_or_reference (leaf_of (word_of s)) s

-- ---- named types

-- a record's name is defined before its fields, which are in its namespace
unfoldable pub record_of : Option Data → Option Data → Option Data → Option (Walk (List DraftField)) → Walk ℕ
record_of name namespace aliases fields enclosing heads = do
  names ← new_names name namespace aliases enclosing heads
  around (RecordDraft names) (Named names.full) (or_unknown fields) (namespace_of names.full) heads

unfoldable pub enum_of : Option Data → Option Data → Option Data → Option Data → Option Data → Walk ℕ
enum_of name namespace aliases symbols default enclosing heads = do
  names ← new_names name namespace aliases enclosing heads
  ss ← symbols_of symbols
  n ← default_symbol ss default
  one_node (Whole (EnumNode names ss n)) enclosing heads

unfoldable pub fixed_of : Option Data → Option Data → Option Data → Option Data → Walk ℕ
fixed_of name namespace aliases size enclosing heads = do
  names ← new_names name namespace aliases enclosing heads
  n ← size_of size
  one_node (Whole (FixedNode names n)) enclosing heads

-- ---- unions

-- once all branches are there
abbrev pub apart_union : List Head → List Head → List ℕ → List Draft → Result (ℕ × List Draft) SchemaError
apart_union heads all members added =
    if are_apart [] (map (head_at all) members) then Ok (length heads, Whole (UnionNode members) ∷ added) else Err
    BadUnion

unfoldable pub union_of : Walk (List ℕ) → Walk ℕ
union_of parts enclosing heads = do
  p ← parts enclosing (heads ++ UnionHead ∷ [])
  apart_union heads ((heads ++ UnionHead ∷ []) ++ heads_of p.1) p.0 p.1

-- ---- objects

-- an object by what its `type` makes of it: the value, the schema and the list of fields at each key
abbrev pub declared_by : Form → (List ℕ → Option Data) → (List ℕ → Option (Walk ℕ)) → (List ℕ
    → Option (Walk (List DraftField))) → Walk ℕ
declared_by forms.Record value schema fields =
    if_room (record_of (value (codes "name")) (value (codes "namespace")) (value (codes "aliases")) (fields (codes
    "fields")))
declared_by forms.Enum value schema fields =
    if_room (enum_of (value (codes "name")) (value (codes "namespace")) (value (codes "aliases")) (value (codes
    "symbols")) (value (codes "default")))
declared_by forms.Fixed value schema fields =
    if_room (fixed_of (value (codes "name")) (value (codes "namespace")) (value (codes "aliases")) (value (codes
    "size")))
declared_by forms.Array value schema fields =
    if_room (around (λ n. Whole (ArrayNode n)) ArrayHead (or_unknown (schema (codes "items"))))
declared_by forms.Map value schema fields =
    if_room (around (λ n. Whole (MapNode n)) MapHead (or_unknown (schema (codes "values"))))
declared_by forms.Error value schema fields = fault OutOfProfile
declared_by forms.Other value schema fields = or_unknown (schema (codes "type"))

-- ---- fields

-- there is room for one more field
abbrev pub if_few : {A : Type 0} → List (List ℕ) → Walk A → Walk A
if_few before w enclosing heads = if nat_lt (length before) MOST_FIELDS then w enclosing heads else Err TooLarge

-- a field, by its `name`, its `aliases`, the walk of its `type`, its `default` and the names before it
unfoldable pub field_of : Option Data → Option Data → Option (Walk ℕ) → Option Data → List (List ℕ) → Walk DraftField
field_of name aliases type default before enclosing heads = do
  s ← field_name name before
  others ← field_aliases aliases
  p ← or_unknown type enclosing heads
  Ok (draft_field s others p.0 default, p.1)

-- ---- the walk

unfoldable mutual
  -- the schema that a value is
  pub walk : Data → Walk ℕ
  walk (string s) = named s
  walk (array ds) = if_room (union_of (members ds))
  walk (object ms) =
      declared_by (form_of (get_member (codes "type") ms)) (λ k. get_member k ms) (walk_member ms) (walk_fields ms)
  walk _ = fault Unknown

  -- the branches of a union
  pub members : Items → Walk (List ℕ)
  members no_items = done []
  members (item d ds) = followed_by (walk d) (λ n. followed_by (members ds) (λ ns. done (n ∷ ns)))

  -- the schema at a key
  pub walk_member : Members → List ℕ → Option (Walk ℕ)
  walk_member no_members k = None
  walk_member (member l d ms) k =
      match_ordering (slice_cmp nat_cmp k l) (walk_member ms k) (Some (walk d)) (walk_member ms k)

  -- the fields at a key
  pub walk_fields : Members → List ℕ → Option (Walk (List DraftField))
  walk_fields no_members k = None
  walk_fields (member l d ms) k =
      match_ordering (slice_cmp nat_cmp k l) (walk_fields ms k) (Some (fields d)) (walk_fields ms k)

  -- the fields that a value lists
  pub fields : Data → Walk (List DraftField)
  fields (array ds) = fields_after ds []
  fields _ = fault Unknown

  -- the fields, after those with the names `before`
  pub fields_after : Items → List (List ℕ) → Walk (List DraftField)
  fields_after no_items before = done []
  fields_after (item d ds) before =
      followed_by (field d before) (λ f. followed_by (fields_after ds (before ++ f.name ∷ [])) (λ fs. done (f ∷ fs)))

  pub field : Data → List (List ℕ) → Walk DraftField
  field (object ms) before =
      if_few before (field_of (get_member (codes "name") ms) (get_member (codes "aliases") ms) (walk_member ms (codes
      "type")) (get_member (codes "default") ms) before)
  field _ before = fault Unknown
