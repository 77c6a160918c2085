-- The nodes that the parts of a value declare, part by part.
use Rattle.std.specs.Prelude.{◌≡◌, ◌⊎◌, ℕ, ◌<◌, List, [], ◌∷◌, ◌++◌, Option, Some, None, slice_get, codes}
use Rattle.serde_json.specs.Data.{Data, array, Items}
use Rattle.serde_json.specs.Find.{get, get_item}
use Rattle.spec_avro.specs.Node.{Node}
use Rattle.spec_schema.specs.Word.{form_of}
use Rattle.spec_schema.specs.declared.word.Form.{Form}
use Rattle.spec_schema.specs.declared.word.Form.TheVariants as forms
use Rattle.avro_schema_paths.specs.Places.{Path, Places, item_at, types_at, value_at}
use Rattle.avro_schema_paths.specs.Adds.{IsThis}
use Rattle.avro_schema_paths.specs.declared.step.Step.TheVariants as steps

-- the value at the `type` of a field
abbrev pub type_in : Option Data → Option Data
type_in None = None
type_in (Some g) = get (codes "type") g

-- the steps to a member of a union
abbrev pub member_steps : ℕ → Path
member_steps i = steps.At i ∷ []

-- the steps to the type of a field
abbrev pub field_steps : ℕ → Path
field_steps i = steps.Fields ∷ steps.At i ∷ steps.Type ∷ []

module _ (nodes : List Node) where
  -- in a value that is a node and is wrapped by none, at a path, where there are both
  abbrev pub InHeld : Option Data → Option ℕ → Path → ℕ → Path → Type 0
  InHeld None n path m q = ⊥
  InHeld (Some d) None path m q = ⊥
  InHeld (Some d) (Some k) path m q = Places nodes d k path path m q

  -- in one of the first members of a union, as many as are counted
  pub record InMember (count : ℕ) (ds : Items) (ns : List ℕ) (path : Path) (m : ℕ) (q : Path) : Type 0 where
    pub i : ℕ
    pub below : i < count
    pub held : InHeld (get_item i ds) (slice_get ns i) (path ++ member_steps i) m q

  -- in one of the first fields of a record, as many as are counted
  pub record InField (count : ℕ) (ds : Items) (ns : List ℕ) (path : Path) (m : ℕ) (q : Path) : Type 0 where
    pub i : ℕ
    pub below : i < count
    pub held : InHeld (type_in (get_item i ds)) (slice_get ns i) (path ++ field_steps i) m q

  -- in the value that an object wraps
  abbrev pub InWrapper : Option Data → ℕ → Path → Path → ℕ → Path → Type 0
  InWrapper None n outer path m q = ⊥
  InWrapper (Some d) n outer path m q = Places nodes d n outer (path ++ steps.Type ∷ []) m q

  -- in the fields that a value lists
  pub record InFields (list : Option Data) (ns : List ℕ) (path : Path) (m : ℕ) (q : Path) : Type 0 where
    pub ds : Items
    pub is : list ≡ Some (array ds)
    pub count : ℕ
    pub field : InField count ds ns path m q

  -- in an object, by its form
  abbrev pub InForm : Form → Data → ℕ → Path → Path → ℕ → Path → Type 0
  InForm forms.Record d n outer path m q =
      IsThis n outer m q ⊎ InFields (get (codes "fields") d) (types_at (slice_get nodes n)) path m q
  InForm forms.Enum d n outer path m q = IsThis n outer m q
  InForm forms.Fixed d n outer path m q = IsThis n outer m q
  InForm forms.Array d n outer path m q =
      IsThis n outer m q
      ⊎ InHeld (get (codes "items") d) (item_at (slice_get nodes n)) (path ++ steps.Items ∷ []) m q
  InForm forms.Map d n outer path m q =
      IsThis n outer m q
      ⊎ InHeld (get (codes "values") d) (value_at (slice_get nodes n)) (path ++ steps.Values ∷ []) m q
  InForm forms.Error d n outer path m q = ⊥
  InForm forms.Other d n outer path m q = InWrapper (get (codes "type") d) n outer path m q

  -- in an object
  abbrev pub InObject : Data → ℕ → Path → Path → ℕ → Path → Type 0
  InObject d n outer path m q = InForm (form_of (get (codes "type") d)) d n outer path m q
