-- Where a default lies that is no value of its field's type (Avro 1.11 Specification, "Complex Types").
use Rattle.std.specs.Prelude.{◌≡◌, ◌<◌, ◌≤◌, ◌+◌, ◌⊎◌, ℕ, List, [], ◌∷◌, length, Option, Some, None, not, is_some, Bool, slice_get}
use Rattle.std.specs.List.{position_from}
use Rattle.serde_json.specs.Data.{Data}
use Rattle.spec_avro.specs.Node.{Names}
use Rattle.spec_schema.specs.Defaults.{field_default}
use Rattle.spec_schema.specs.Draft.{Draft, DraftField, RecordDraft, Whole}
use Rattle.spec_schema.specs.Head.{Head}
use Rattle.spec_schema.specs.Names.{null_namespace}
use Rattle.spec_schema.specs.declared.word.Form.TheVariants as forms
use Rattle.avro_schema_paths.specs.Places.{Path}
use Rattle.avro_schema_faults.specs.Faults.{Comes, IsOfForm, schema}
use Rattle.avro_schema_faults.specs.declared.bad_defaults.FieldPlace.{FieldPlace}

-- the default of the field at a position of the record that is this node is no value of the field's type
pub record HasBadDefault (drafts : List Draft) (node position : ℕ) : Type 0 where
  pub names : Names
  pub fields : List DraftField
  pub field : DraftField
  pub record_is : slice_get drafts node ≡ Some (RecordDraft names fields)
  pub field_is : slice_get fields position ≡ Some field
  pub bad : field_default drafts field.node field.default ≡ None

-- it is the first one, by the numbers of the records and then by the positions of their fields
pub record IsFirstBadDefault (drafts : List Draft) (node position : ℕ) : Type 0 where
  pub has : HasBadDefault drafts node position
  pub first : (n i : ℕ) → HasBadDefault drafts n i → (node < n) ⊎ ((node ≡ n) × (position ≤ i))

-- The path leads to the object that declares the record which is this node: to that inside, where others wrap it.
pub record IsRecordAt (d : Data) (node : ℕ) (path : Path) : Type 0 where
  pub value : Data
  pub enclosing : List ℕ
  pub heads : List Head
  pub comes : Comes (schema d null_namespace []) path (schema value enclosing heads)
  pub form : IsOfForm forms.Record value
  pub number : length heads ≡ node

-- ---- the search for it

abbrev pub is_bad : List Draft → DraftField → Bool
is_bad drafts f = not (is_some (field_default drafts f.node f.default))

-- the first field of a draft of which it is so
abbrev pub bad_field : List Draft → Draft → Option ℕ
bad_field drafts (Whole node) = None
bad_field drafts (RecordDraft names fields) = position_from (is_bad drafts) 0 fields

abbrev pub or_later : ℕ → Option ℕ → Option FieldPlace → Option FieldPlace
or_later node (Some i) later = Some (record { node = node; position = i })
or_later node None later = later

-- the first one of these drafts, which have their numbers from `node` on, and its position
abbrev pub first_bad : List Draft → ℕ → List Draft → Option FieldPlace
first_bad drafts node [] = None
first_bad drafts node (d ∷ ds) = or_later node (bad_field drafts d) (first_bad drafts (node + 1) ds)
