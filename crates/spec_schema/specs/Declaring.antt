-- What a JSON value declares, and which nodes (Avro 1.11, "Schema Declaration" and "Names"). Nothing is said of
-- defaults but where they are.
use Rattle.std.specs.Prelude.{◌≡◌, ◌≢◌, ℕ, ◌<◌, ◌≤◌, List, [], ◌∷◌, ◌++◌, length, map, true, false, Option, Some, None, codes}
use Rattle.std.specs.List.{AllByRecursion, IsDistinct}
use Rattle.std.specs.Str.{bytes_eq}
use Rattle.serde_json.specs.Data.{Data, string, array, object, Items, no_items, item, Members}
use Rattle.serde_json.specs.Find.{get_member}
use Rattle.spec_avro.specs.declared.limits.TheConstants.{MOST_FIELDS, MOST_NODES}
use Rattle.spec_schema.specs.Draft.{Draft, Whole, RecordDraft, DraftField, draft_field}
use Rattle.spec_avro.specs.FullNames.{is_name, has_dot, is_full_name, full_name, inside, namespace_of, unqualified}
use Rattle.spec_schema.specs.Head.{Head, heads_of, is_same_type, is_union_head, head_at}
use Rattle.spec_avro.specs.Node.{Node, Names, NullNode, BooleanNode, IntNode, LongNode, BytesNode, TextNode, FixedNode, EnumNode, ArrayNode, MapNode, UnionNode}
use Rattle.spec_schema.specs.Given.{AreFieldAliases, AreTypeAliases, IsDefaultSymbol, IsSize, IsSymbols}
use Rattle.spec_schema.specs.Definitions.{IsDefinedAt, IsNewName}

-- there is room for one more node
abbrev pub HasRoom : List Draft → Type 0
HasRoom before = length before < MOST_NODES

-- ---- words

-- a primitive type's name, and its node
pub data IsPrimitive : List ℕ → Node → Type 0 where
  null_type : IsPrimitive (codes "null") NullNode
  boolean_type : IsPrimitive (codes "boolean") BooleanNode
  int_type : IsPrimitive (codes "int") IntNode
  long_type : IsPrimitive (codes "long") LongNode
  bytes_type : IsPrimitive (codes "bytes") BytesNode
  text_type : IsPrimitive (codes "string") TextNode

-- the names of primitive types, those that are left out among them
abbrev pub primitives : List (List ℕ)
primitives =
    codes "null" ∷ codes "boolean" ∷ codes "int" ∷ codes "long" ∷ codes "bytes" ∷ codes "string" ∷ codes "float"
    ∷ codes "double" ∷ []

abbrev pub IsNoPrimitive : List ℕ → Type 0
IsNoPrimitive s = AllByRecursion (λ w. s ≢ w) primitives

-- ---- names

-- in an enclosing namespace, the full name that an object's `name` and `namespace` give
pub data GivesFullName (ms : Members) (enclosing : List ℕ) : List ℕ → Type 0 where
  dotted : {s : List ℕ} → get_member (codes "name") ms ≡ Some (string s) → has_dot s ≡ true
      → GivesFullName ms enclosing s
  in_its_own : {s own : List ℕ} → get_member (codes "name") ms ≡ Some (string s) → has_dot s ≡ false
      → get_member (codes "namespace") ms ≡ Some (string own) → GivesFullName ms enclosing (inside own s)
  in_enclosing : {s : List ℕ} → get_member (codes "name") ms ≡ Some (string s) → has_dot s ≡ false
      → get_member (codes "namespace") ms ≡ None → GivesFullName ms enclosing (inside enclosing s)

-- the object defines this full name, by the rule for names, and none of the nodes before has it
pub record DefinesFullName (ms : Members) (enclosing : List ℕ) (before : List Draft) (full : List ℕ) : Type 0 where
  pub gives : GivesFullName ms enclosing full
  pub by_rule : is_full_name full ≡ true
  pub not_primitive : IsNoPrimitive (unqualified full)
  pub new : IsNewName full before

-- the object defines this full name with these aliases
pub record DefinesNames (ms : Members) (enclosing : List ℕ) (before : List Draft) (names : Names) : Type 0 where
  pub full_name : DefinesFullName ms enclosing before names.full
  pub aliases : AreTypeAliases (get_member (codes "aliases") ms) names.full names.aliases

-- the object's `type` is this word
abbrev pub IsOf : List ℕ → Members → Type 0
IsOf word ms = get_member (codes "type") ms ≡ Some (string word)

-- a `type` that is none of these words is a schema of its own
abbrev pub words : List (List ℕ)
words = codes "record" ∷ codes "enum" ∷ codes "fixed" ∷ codes "array" ∷ codes "map" ∷ codes "error" ∷ []

abbrev pub IsNoWord : Data → Type 0
IsNoWord d = AllByRecursion (λ w. d ≢ string w) words

abbrev pub AreTypesApart : List Head → Type 0
AreTypesApart types = AllByRecursion (λ h. is_union_head h ≡ false) types × IsDistinct is_same_type types

-- among these nodes, the branches are of different types, and none is a union
abbrev pub AreApart : List Draft → List ℕ → Type 0
AreApart nodes members = AreTypesApart (map (head_at (heads_of nodes)) members)

-- ---- values

mutual
  -- In an enclosing namespace, after the nodes before, the value is the node at that index, and adds those nodes.
  pub data Declares : Data → List ℕ → List Draft → ℕ → List Draft → Type 0 where
    -- "Primitive Types": "Primitive type names are also defined type names"
    a_primitive : {s enclosing : List ℕ} {before : List Draft} {node : Node}
        → IsPrimitive s node → HasRoom before
        → Declares (string s) enclosing before (length before) (Whole node ∷ [])
    -- "Names": a name that was defined before
    a_reference : {s enclosing : List ℕ} {before : List Draft} {n : ℕ}
        → IsNoPrimitive s → IsDefinedAt (full_name enclosing s) before n
        → Declares (string s) enclosing before n []
    -- "Unions"; that there may be no branch is this project's own rule
    a_union : {ds : Items} {enclosing : List ℕ} {before added : List Draft} {ns : List ℕ}
        → HasRoom before
        → DeclareMembers ds enclosing (before ++ Whole (UnionNode ns) ∷ []) ns added
        → AreApart ((before ++ Whole (UnionNode ns) ∷ []) ++ added) ns
        → Declares (array ds) enclosing before (length before) (Whole (UnionNode ns) ∷ added)
    -- "Arrays"
    an_array : {ms : Members} {d : Data} {enclosing : List ℕ} {before added : List Draft} {n : ℕ}
        → IsOf (codes "array") ms → HasRoom before → get_member (codes "items") ms ≡ Some d
        → Declares d enclosing (before ++ Whole (ArrayNode n) ∷ []) n added
        → Declares (object ms) enclosing before (length before) (Whole (ArrayNode n) ∷ added)
    -- "Maps"
    a_map : {ms : Members} {d : Data} {enclosing : List ℕ} {before added : List Draft} {n : ℕ}
        → IsOf (codes "map") ms → HasRoom before → get_member (codes "values") ms ≡ Some d
        → Declares d enclosing (before ++ Whole (MapNode n) ∷ []) n added
        → Declares (object ms) enclosing before (length before) (Whole (MapNode n) ∷ added)
    -- "Records": its fields come after it, in its own namespace; how many there may be is this project's own rule
    a_record : {ms : Members} {ds : Items} {enclosing : List ℕ} {names : Names} {before added : List Draft}
        {fs : List DraftField}
        → IsOf (codes "record") ms → HasRoom before → DefinesNames ms enclosing before names
        → get_member (codes "fields") ms ≡ Some (array ds)
        → DeclareFields ds (namespace_of names.full) (before ++ RecordDraft names fs ∷ []) fs added
        → IsDistinct bytes_eq (map (λ f. f.name) fs) → length fs ≤ MOST_FIELDS
        → Declares (object ms) enclosing before (length before) (RecordDraft names fs ∷ added)
    -- "Enums"
    an_enum : {ms : Members} {enclosing : List ℕ} {names : Names} {before : List Draft}
        {symbols : List (List ℕ)} {default : Option ℕ}
        → IsOf (codes "enum") ms → HasRoom before → DefinesNames ms enclosing before names
        → IsSymbols (get_member (codes "symbols") ms) symbols
        → IsDefaultSymbol symbols (get_member (codes "default") ms) default
        → Declares (object ms) enclosing before (length before) (Whole (EnumNode names symbols default) ∷ [])
    -- "Fixed"
    a_fixed : {ms : Members} {enclosing : List ℕ} {names : Names} {before : List Draft} {size : ℕ}
        → IsOf (codes "fixed") ms → HasRoom before → DefinesNames ms enclosing before names
        → IsSize (get_member (codes "size") ms) size
        → Declares (object ms) enclosing before (length before) (Whole (FixedNode names size) ∷ [])
    -- an object whose `type` is another schema, whatever that is (this project's own rule)
    another : {ms : Members} {d : Data} {enclosing : List ℕ} {before added : List Draft} {n : ℕ}
        → get_member (codes "type") ms ≡ Some d → IsNoWord d → Declares d enclosing before n added
        → Declares (object ms) enclosing before n added

  -- the elements are the branches, one by one, each after the nodes of those before it
  pub data DeclareMembers : Items → List ℕ → List Draft → List ℕ → List Draft → Type 0 where
    no_more_members : {enclosing : List ℕ} {before : List Draft} → DeclareMembers no_items enclosing before [] []
    a_member : {d : Data} {ds : Items} {enclosing : List ℕ} {before added more : List Draft} {n : ℕ} {ns : List ℕ}
        → Declares d enclosing before n added → DeclareMembers ds enclosing (before ++ added) ns more
        → DeclareMembers (item d ds) enclosing before (n ∷ ns) (added ++ more)

  -- the elements are the fields, one by one
  pub data DeclareFields : Items → List ℕ → List Draft → List DraftField → List Draft → Type 0 where
    no_more_fields : {enclosing : List ℕ} {before : List Draft} → DeclareFields no_items enclosing before [] []
    a_field : {ms : Members} {d : Data} {ds : Items} {s enclosing : List ℕ} {aliases : List (List ℕ)}
        {before added more : List Draft} {n : ℕ} {fs : List DraftField}
        → get_member (codes "name") ms ≡ Some (string s) → is_name s ≡ true
        → AreFieldAliases (get_member (codes "aliases") ms) aliases
        → get_member (codes "type") ms ≡ Some d → Declares d enclosing before n added
        → DeclareFields ds enclosing (before ++ added) fs more
        → DeclareFields (item (object ms) ds) enclosing before
        (draft_field s aliases n (get_member (codes "default") ms) ∷ fs) (added ++ more)
