-- What the walk leaves of the trail: the steps that it had, and, if it ends with a fault, after them those to it.
use Rattle.std.specs.Prelude.{◌≡◌, ◌≢◌, ℕ, List, [], ◌∷◌, ◌++◌, Result, Ok, Err}
use Rattle.serde_json.specs.Data.{Data, Items}
use Rattle.spec_schema.specs.Head.{Head}
use Rattle.spec_schema.specs.declared.schema_error.SchemaError.{SchemaError}
use Rattle.spec_schema.specs.declared.schema_error.SchemaError.TheVariants.{NoMemory}
use Rattle.avro_schema_paths.specs.Places.{Path}
use Rattle.avro_schema_paths.specs.declared.step.Step.{Step}
use Rattle.avro_schema_paths.specs.declared.step.Step.TheVariants as steps
use Rattle.avro_schema_faults.specs.Faults.{FieldAt, IsFault, MemberAt, Visit, schema}

-- the trail ends with the steps from a value to its fault
pub record Ends (e : SchemaError) (v : Visit) (before after : Path) : Type 0 where
  pub path : Path
  pub is : after ≡ before ++ path
  pub fault : IsFault e v path

-- the walk of a value
abbrev pub Leaves : {R : Type 0} → Result R SchemaError → Visit → Path → Path → Type 0
Leaves (Ok r) v before after = after ≡ before
Leaves (Err e) v before after = e ≢ NoMemory → Ends e v before after

-- the walk of a part, by a step that comes before its own
abbrev pub LeavesFrom : {R : Type 0} → Step → Result R SchemaError → Visit → Path → Path → Type 0
LeavesFrom step (Ok r) v before after = after ≡ before
LeavesFrom step (Err e) v before after = e ≢ NoMemory → Ends e v (before ++ step ∷ []) after

-- one of these branches is at fault
pub record EndsInMember (e : SchemaError) (ds : Items) (enclosing : List ℕ) (heads : List Head) (before after : Path)
    : Type 0 where
  pub i : ℕ
  pub member : Data
  pub more : List Head
  pub comes : MemberAt enclosing ds heads i member more
  pub ends : Ends e (schema member enclosing more) (before ++ steps.At i ∷ []) after

abbrev pub LeavesMember : {R : Type 0} → Result R SchemaError → Items → List ℕ → List Head → Path → Path → Type 0
LeavesMember (Ok r) ds enclosing heads before after = after ≡ before
LeavesMember (Err e) ds enclosing heads before after = e ≢ NoMemory → EndsInMember e ds enclosing heads before after

-- one of these fields is
pub record EndsInField (e : SchemaError) (ds : Items) (enclosing : List ℕ) (heads : List Head) (before after : Path)
    : Type 0 where
  pub i : ℕ
  pub field : Visit
  pub comes : FieldAt enclosing ds [] heads i field
  pub ends : Ends e field (before ++ steps.At i ∷ []) after

abbrev pub LeavesField : {R : Type 0} → Result R SchemaError → Items → List ℕ → List Head → Path → Path → Type 0
LeavesField (Ok r) ds enclosing heads before after = after ≡ before
LeavesField (Err e) ds enclosing heads before after = e ≢ NoMemory → EndsInField e ds enclosing heads before after
