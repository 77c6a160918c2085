-- What the place of a fault means.
use Rattle.std.specs.Prelude.{◌≡◌, ℕ, Some}
use Rattle.serde_json.specs.Data.{Data}
use Rattle.spec_schema.specs.declared.schema_error.SchemaError.{SchemaError}
use Rattle.spec_schema.specs.declared.word.Form.TheVariants as forms
use Rattle.avro_schema_paths.specs.Following.{follow}
use Rattle.avro_schema_paths.specs.Places.{Path}
use Rattle.avro_schema_faults.specs.DefaultPlaces.{IsRecordAt}
use Rattle.avro_schema_faults.specs.Faults.{Comes, Fails, HasSoundParts, IsFault, IsOfForm, Visit, field_after, listing, schema}

-- the value that is walked
abbrev pub value_in : Visit → Data
value_in (schema d enclosing heads) = d
value_in (listing d enclosing heads) = d
value_in (field_after before d enclosing heads) = d

-- The path leads to a value that the walk comes to. Its walk, after the heads that it then has, ends with the fault,
-- and that of no part of it does.
pub record LeadsToFault (e : SchemaError) (root : Visit) (path : Path) : Type 0 where
  pub found : Visit
  pub at : follow path (value_in root) ≡ Some (value_in found)
  pub comes : Comes root path found
  pub fails : Fails e found
  pub sound : HasSoundParts found

-- each place does
abbrev pub PlacesLeadToFaults : Type 0
PlacesLeadToFaults = (e : SchemaError) (root : Visit) (path : Path) → IsFault e root path → LeadsToFault e root path

-- the walk of a value ends with the fault that it has at a place
abbrev pub PlacesAreOfFaults : Type 0
PlacesAreOfFaults = (e : SchemaError) (root : Visit) (path : Path) → IsFault e root path → Fails e root

-- no value has two places
abbrev pub EachFaultHasOnePlace : Type 0
EachFaultHasOnePlace = (e x : SchemaError) (root : Visit) (q r : Path) → IsFault e root q → IsFault x root r → q ≡ r

-- the path leads to an object of the form of records
pub record LeadsToRecord (d : Data) (path : Path) : Type 0 where
  pub value : Data
  pub at : follow path d ≡ Some value
  pub form : IsOfForm forms.Record value

-- the path of each node that is a record does
abbrev pub RecordPathsLeadToRecords : Type 0
RecordPathsLeadToRecords = (d : Data) (node : ℕ) (path : Path) → IsRecordAt d node path → LeadsToRecord d path
