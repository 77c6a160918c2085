-- Where a text that is no schema has its first fault.
use Rattle.std.specs.Prelude.{◌≡◌, ◌≢◌, ◌<◌, ◌≤◌, ⊤, ℕ, List, [], ◌∷◌, ◌++◌, length, true, false, Option, Some, None, Result, Ok, Err}
use Rattle.serde_json.specs.Data.{Data}
use Rattle.serde_json.specs.Read.{read}
use Rattle.serde_json.specs.Written.{has_float}
use Rattle.spec_avro.specs.Node.{Node}
use Rattle.spec_avro.specs.declared.limits.TheConstants.{MOST_TEXT}
use Rattle.spec_schema.specs.Schema.{declared, nodes_in, schema_of}
use Rattle.spec_schema.specs.Draft.{Draft}
use Rattle.spec_schema.specs.Names.{null_namespace}
use Rattle.spec_schema.specs.declared.schema_error.SchemaError.{SchemaError}
use Rattle.spec_schema.specs.declared.schema_error.SchemaError.TheVariants.{BadDefault, BadNumber, NoMemory, NotJson, TooLarge}
use Rattle.avro_schema_paths.specs.Places.{Path}
use Rattle.avro_schema_paths.specs.declared.step.Step.TheVariants as steps
use Rattle.spec_schema.specs.Walk.{walk}
use Rattle.avro_schema_faults.specs.declared.faults.Fault.{Fault}
use Rattle.avro_schema_faults.specs.DefaultPlaces.{IsFirstBadDefault, IsRecordAt}
use Rattle.avro_schema_faults.specs.Faults.{IsFault, schema}
use Rattle.avro_schema_faults.specs.Fractions.{IsFractionAt}

-- In a value without fractions: the walk's fault has the path of the smallest value that is at fault, and a default
-- that is no value of its type that of its field, which is the one at a position of its record's `fields`.
pub data IsPlace : Data → SchemaError → Path → Type 0 where
  of_walk : {d : Data} {e : SchemaError} {path : Path} → IsFault e (schema d null_namespace []) path → IsPlace d e path
  of_default : {d : Data} {n m i : ℕ} {drafts : List Draft} {path : Path} → walk d null_namespace [] ≡ Ok (n, drafts)
      → IsFirstBadDefault drafts m i → IsRecordAt d m path
      → IsPlace d BadDefault (path ++ steps.Fields ∷ steps.At i ∷ [])

-- in a value: where a number is a fraction or out of range the place is the smallest part that has one
pub data IsPlaceIn : Data → SchemaError → Path → Type 0 where
  of_number : {d : Data} {path : Path} → has_float d ≡ true → IsFractionAt d path → IsPlaceIn d BadNumber path
  of_schema : {d : Data} {e : SchemaError} {path : Path} → has_float d ≡ false → IsPlace d e path → IsPlaceIn d e path

-- in a text: where it is too long or no JSON the place is the root
pub data IsPlaceOf (text : List ℕ) : SchemaError → Path → Type 0 where
  of_length : MOST_TEXT < length text → IsPlaceOf text TooLarge []
  of_text : length text ≤ MOST_TEXT → read text ≡ None → IsPlaceOf text NotJson []
  of_value : {d : Data} {e : SchemaError} {path : Path} → length text ≤ MOST_TEXT → read text ≡ Some d
      → IsPlaceIn d e path → IsPlaceOf text e path

-- a fault with this error, at the root
pub record IsWholeFault (e : SchemaError) (f : Fault) : Type 0 where
  pub error : f.error ≡ e
  pub path : f.path.items ≡ []

-- the first fault of a value, and its place
pub record IsFaultIn (d : Data) (f : Fault) : Type 0 where
  pub error : nodes_in d ≡ Err f.error
  pub place : IsPlaceIn d f.error f.path.items

-- the first fault of a text, and its place
pub record IsFaultOf (text : List ℕ) (f : Fault) : Type 0 where
  pub error : schema_of text ≡ Err f.error
  pub place : IsPlaceOf text f.error f.path.items

-- of a text: none where it is a schema, unless memory ran out
abbrev pub Finds : {E : Type 0} → Result (Option Fault) E → List ℕ → Type 0
Finds (Ok None) text = (nodes : List Node) × (schema_of text ≡ Ok nodes)
Finds (Ok (Some f)) text = IsFaultOf text f
Finds (Err e) text = ⊤

abbrev pub FindsIn : {E : Type 0} → Result (Option Fault) E → Data → Type 0
FindsIn (Ok None) d = (nodes : List Node) × (nodes_in d ≡ Ok nodes)
FindsIn (Ok (Some f)) d = IsFaultIn d f
FindsIn (Err e) d = ⊤

-- of a walk from an empty trail, and what is left of it
abbrev pub Leads : {A : Type 0} → Result A SchemaError → Data → Path → Type 0
Leads (Ok a) d after = (nodes : List Node) × (declared d ≡ Ok nodes)
Leads (Err e) d after = e ≢ NoMemory → (declared d ≡ Err e) × IsPlace d e after
