-- The search for the value that declares the node at an index.
use Rattle.std.specs.Prelude.{◌≡◌, ◌<◌, ⊤, ℕ, ◌+◌, List, [], ◌∷◌, ◌++◌, length, Bool, true, false, Option, Some, None, Result, Ok, Err, slice_get}
use Rattle.serde_json.specs.Data.{Data, Items}
use Rattle.spec_schema.specs.Draft.{Draft, DraftField, RecordDraft}
use Rattle.spec_schema.specs.Head.{Head}
use Rattle.spec_schema.specs.Names.{null_namespace}
use Rattle.spec_schema.specs.declared.word.Form.TheVariants as forms
use Rattle.avro_schema_paths.specs.Places.{Path}
use Rattle.avro_schema_paths.specs.declared.step.Step.{Step}
use Rattle.avro_schema_paths.specs.declared.step.Step.TheVariants as steps
use Rattle.spec_schema.specs.Walk.{field, fields, fields_after, members, walk}
use Rattle.avro_schema_faults.specs.DefaultPlaces.{IsRecordAt}
use Rattle.avro_schema_faults.specs.Faults.{Comes, FieldAt, IsOfForm, MemberAt, Visit, field_after, listing, schema}

-- the walk of a value adds these nodes
abbrev pub Adds : Visit → List Draft → Type 0
Adds (schema d enclosing heads) added = (n : ℕ) × (walk d enclosing heads ≡ Ok (n, added))
Adds (listing d enclosing heads) added = (fs : List DraftField) × (fields d enclosing heads ≡ Ok (fs, added))
Adds (field_after before d enclosing heads) added = (f : DraftField) × (field d before enclosing heads ≡ Ok (f, added))

-- how many nodes there are before
abbrev pub nodes_before : Visit → ℕ
nodes_before (schema d enclosing heads) = length heads
nodes_before (listing d enclosing heads) = length heads
nodes_before (field_after before d enclosing heads) = length heads

abbrev pub is_record : Option Draft → Bool
is_record (Some (RecordDraft names fields)) = true
is_record _ = false

-- the path leads to the value that declares this node, which is an object of the form of records where its draft is one
pub record IsDeclaredAt (v : Visit) (node : ℕ) (draft : Option Draft) (path : Path) : Type 0 where
  pub value : Data
  pub enclosing : List ℕ
  pub heads : List Head
  pub comes : Comes v path (schema value enclosing heads)
  pub number : length heads ≡ node
  pub form : is_record draft ≡ true → IsOfForm forms.Record value

-- What the search for the node after `k` others comes to: `None` where it lies in the value, at a path, and else how
-- many of those nodes come after the value.
abbrev pub Sought : Visit → ℕ → Option ℕ → Path → Type 0
Sought v k (Some rest) path = (added : List Draft) → Adds v added → length added + rest ≡ k
Sought v k None path =
    (added : List Draft) → Adds v added
    → (k < length added) × IsDeclaredAt v (nodes_before v + k) (slice_get added k) path

-- wherever the walk comes to the value
abbrev pub SoughtIn : Data → ℕ → Option ℕ → Path → Type 0
SoughtIn d k found path = (enclosing : List ℕ) (heads : List Head) → Sought (schema d enclosing heads) k found path

abbrev pub SoughtInList : Data → ℕ → Option ℕ → Path → Type 0
SoughtInList d k found path = (enclosing : List ℕ) (heads : List Head) → Sought (listing d enclosing heads) k found path

abbrev pub SoughtInField : Data → ℕ → Option ℕ → Path → Type 0
SoughtInField d k found path =
    (before : List (List ℕ)) (enclosing : List ℕ) (heads : List Head) → Sought (field_after before d enclosing heads) k
    found path

-- in a part, by a step
abbrev pub Behind : Step → (Option ℕ → Path → Type 0) → Option ℕ → Path → Type 0
Behind step S (Some rest) path = S (Some rest) []
Behind step S None path = (q : Path) × (path ≡ step ∷ q) × S None q

-- in one of these branches, of which the first has the position `i`
pub record IsInMember (enclosing : List ℕ) (ds : Items) (heads : List Head) (i node : ℕ) (draft : Option Draft)
    (path : Path) : Type 0 where
  pub j : ℕ
  pub member : Data
  pub more : List Head
  pub rest : Path
  pub at : MemberAt enclosing ds heads j member more
  pub path_is : path ≡ steps.At (i + j) ∷ rest
  pub found : IsDeclaredAt (schema member enclosing more) node draft rest

abbrev pub SoughtInMembers : Items → ℕ → ℕ → Option ℕ → Path → Type 0
SoughtInMembers ds i k (Some rest) path =
    (enclosing : List ℕ) (heads : List Head) (ns : List ℕ) (added : List Draft) → members ds enclosing heads ≡ Ok (
      ns,
      added,
    ) → length added + rest ≡ k
SoughtInMembers ds i k None path =
    (enclosing : List ℕ) (heads : List Head) (ns : List ℕ) (added : List Draft) → members ds enclosing heads ≡ Ok (
      ns,
      added,
    ) → (k < length added) × IsInMember enclosing ds heads i (length heads + k) (slice_get added k) path

-- in one of these fields
pub record IsInField (enclosing : List ℕ) (ds : Items) (before : List (List ℕ)) (heads : List Head) (i node : ℕ)
    (draft : Option Draft) (path : Path) : Type 0 where
  pub j : ℕ
  pub field : Visit
  pub rest : Path
  pub at : FieldAt enclosing ds before heads j field
  pub path_is : path ≡ steps.At (i + j) ∷ rest
  pub found : IsDeclaredAt field node draft rest

abbrev pub SoughtInFields : Items → ℕ → ℕ → Option ℕ → Path → Type 0
SoughtInFields ds i k (Some rest) path =
    (before : List (List ℕ)) (enclosing : List ℕ) (heads : List Head) (fs : List DraftField) (added : List Draft)
    → fields_after ds before enclosing heads ≡ Ok (fs, added) → length added + rest ≡ k
SoughtInFields ds i k None path =
    (before : List (List ℕ)) (enclosing : List ℕ) (heads : List Head) (fs : List DraftField) (added : List Draft)
    → fields_after ds before enclosing heads ≡ Ok (fs, added)
    → (k < length added) × IsInField enclosing ds before heads i (length heads + k) (slice_get added k) path

-- the search leaves a path after the steps that were there where it finds the node, and else these steps
abbrev pub Searches : {E : Type 0} → Result (Option ℕ) E → (Option ℕ → Path → Type 0) → Path → Path → Type 0
Searches (Ok None) S before after = (path : Path) × (after ≡ before ++ path) × S None path
Searches (Ok (Some rest)) S before after = (after ≡ before) × S (Some rest) []
Searches (Err e) S before after = ⊤

-- the steps to the field of a record, after those that were there
pub record EndsAtField (d : Data) (node position : ℕ) (before after : Path) : Type 0 where
  pub path : Path
  pub is : after ≡ before ++ (path ++ steps.Fields ∷ steps.At position ∷ [])
  pub record_is : IsRecordAt d node path

-- where the node is a record of the value
abbrev pub LeadsToField : Data → ℕ → ℕ → Path → Path → Type 0
LeadsToField d node position before after =
    (drafts : List Draft) → Adds (schema d null_namespace []) drafts → is_record (slice_get drafts node) ≡ true
    → EndsAtField d node position before after
