-- Where each node of a schema is declared in its JSON value (Avro 1.11 Specification, "Schema Declaration").
use Rattle.std.specs.Prelude.{◌≡◌, ℕ, Bool, true, false, List, [], ◌∷◌, ◌++◌, map, Option, Some, None, slice_get, codes}
use Rattle.serde_json.specs.Data.{Data, string, array, object, Items, Members}
use Rattle.serde_json.specs.Find.{get, get_item}
use Rattle.spec_avro.specs.Node.{Node, ArrayNode, MapNode, UnionNode, RecordNode}
use Rattle.spec_schema.specs.Word.{form_of, leaf_of, word_of}
use Rattle.spec_schema.specs.declared.word.Form.{Form}
use Rattle.spec_schema.specs.declared.word.Form.TheVariants as forms
use Rattle.avro_schema_paths.specs.declared.step.Step.{Step}
use Rattle.avro_schema_paths.specs.declared.step.Step.TheVariants as steps

-- steps into a JSON value, the first one from its root
abbrev pub Path : Type 0
Path = List Step

-- the form of an object, by its `type`
abbrev pub form_at : Members → Form
form_at ms = form_of (get (codes "type") (object ms))

-- an object of that form declares a type by itself
abbrev pub declares : Form → Bool
declares forms.Error = false
declares forms.Other = false
declares _ = true

-- the nodes of the types of a record's fields
abbrev pub types_at : Option Node → List ℕ
types_at (Some (RecordNode names fs)) = map (λ f. f.node) fs
types_at _ = []

-- the members of a union
abbrev pub members_at : Option Node → List ℕ
members_at (Some (UnionNode ns)) = ns
members_at _ = []

-- the node of an array's items
abbrev pub item_at : Option Node → Option ℕ
item_at (Some (ArrayNode k)) = Some k
item_at _ = None

-- the node of a map's values
abbrev pub value_at : Option Node → Option ℕ
value_at (Some (MapNode k)) = Some k
value_at _ = None

module _ (nodes : List Node) where
  -- A value is the node n. It has a path, and the outermost of the objects that wrap it has the path `outer`, which is
  -- the value's own where none does. In it the node m is declared, with the path q.
  pub data Places : Data → ℕ → Path → Path → ℕ → Path → Type 0 where
    -- "Primitive Types"; another word is a name, which declares nothing
    a_word : {s : List ℕ} {n : ℕ} {outer path : Path} {node : Node} → leaf_of (word_of s) ≡ Some node
        → Places (string s) n outer path n outer
    -- "Unions"
    a_union : {ds : Items} {n : ℕ} {outer path : Path} → Places (array ds) n outer path n outer
    in_union : {ds : Items} {n m : ℕ} {outer path q : Path} {d : Data} {k : ℕ} (i : ℕ)
        → slice_get (members_at (slice_get nodes n)) i ≡ Some k → get_item i ds ≡ Some d
        → Places d k (path ++ steps.At i ∷ []) (path ++ steps.At i ∷ []) m q → Places (array ds) n outer path m q
    -- "Complex Types"
    a_type : {ms : Members} {n : ℕ} {outer path : Path} → declares (form_at ms) ≡ true
        → Places (object ms) n outer path n outer
    in_array : {ms : Members} {n m : ℕ} {outer path q : Path} {d : Data} {k : ℕ}
        → form_at ms ≡ forms.Array → item_at (slice_get nodes n) ≡ Some k
        → get (codes "items") (object ms) ≡ Some d
        → Places d k (path ++ steps.Items ∷ []) (path ++ steps.Items ∷ []) m q → Places (object ms) n outer path m q
    in_map : {ms : Members} {n m : ℕ} {outer path q : Path} {d : Data} {k : ℕ}
        → form_at ms ≡ forms.Map → value_at (slice_get nodes n) ≡ Some k
        → get (codes "values") (object ms) ≡ Some d
        → Places d k (path ++ steps.Values ∷ []) (path ++ steps.Values ∷ []) m q → Places (object ms) n outer path m q
    in_record : {ms : Members} {n m : ℕ} {outer path q : Path} {ds : Items} {g d : Data} {k : ℕ} (i : ℕ)
        → form_at ms ≡ forms.Record → slice_get (types_at (slice_get nodes n)) i ≡ Some k
        → get (codes "fields") (object ms) ≡ Some (array ds) → get_item i ds ≡ Some g
        → get (codes "type") g ≡ Some d
        → Places d k (path ++ steps.Fields ∷ steps.At i ∷ steps.Type ∷ []) (path ++ steps.Fields ∷ steps.At i
        ∷ steps.Type ∷ []) m q
        → Places (object ms) n outer path m q
    -- an object that wraps a schema: the path of what it declares is its own, or that of an object around it
    in_wrapper : {ms : Members} {n m : ℕ} {outer path q : Path} {d : Data}
        → form_at ms ≡ forms.Other → get (codes "type") (object ms) ≡ Some d
        → Places d n outer (path ++ steps.Type ∷ []) m q → Places (object ms) n outer path m q

-- in the value of a schema, whose root is node 0, a node has this path
abbrev pub IsPathOf : List Node → Data → ℕ → Path → Type 0
IsPathOf nodes value m q = Places nodes value 0 [] [] m q
