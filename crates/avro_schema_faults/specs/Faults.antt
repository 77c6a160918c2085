-- Where a schema's first fault is: into which parts the walk of a value goes, and which of them it fails in
-- (Avro 1.11 Specification, "Schema Declaration").
use Rattle.std.specs.Prelude.{◌≡◌, ◌<◌, ℕ, suc, true, is_some, List, [], ◌∷◌, ◌++◌, length, Some, Ok, Err, codes}
use Rattle.serde_json.specs.Data.{Data, array, Items, item}
use Rattle.serde_json.specs.Find.{as_object, get}
use Rattle.spec_avro.specs.FullNames.{namespace_of}
use Rattle.spec_avro.specs.Node.{Names}
use Rattle.spec_avro.specs.declared.limits.TheConstants.{MOST_FIELDS, MOST_NODES}
use Rattle.spec_schema.specs.Draft.{Draft, DraftField}
use Rattle.spec_schema.specs.Head.{Head, ArrayHead, MapHead, Named, UnionHead, heads_of}
use Rattle.spec_schema.specs.Aliases.{field_aliases, new_names}
use Rattle.spec_schema.specs.Names.{field_name}
use Rattle.spec_schema.specs.Word.{form_of}
use Rattle.spec_schema.specs.declared.schema_error.SchemaError.{SchemaError}
use Rattle.spec_schema.specs.declared.word.Form.{Form}
use Rattle.spec_schema.specs.declared.word.Form.TheVariants as forms
use Rattle.avro_schema_paths.specs.Places.{Path}
use Rattle.avro_schema_paths.specs.declared.step.Step.{Step}
use Rattle.avro_schema_paths.specs.declared.step.Step.TheVariants as steps
use Rattle.spec_schema.specs.Walk.{field, fields, walk}

-- A value as the walk comes to it, in a namespace and after nodes of which these heads are seen: a schema, the list of
-- a record's fields, or a field after those with the given names.
pub data Visit : Type 0 where
  schema : Data → List ℕ → List Head → Visit
  listing : Data → List ℕ → List Head → Visit
  field_after : List (List ℕ) → Data → List ℕ → List Head → Visit

-- the walk of the value ends with this fault
abbrev pub Fails : SchemaError → Visit → Type 0
Fails e (schema d enclosing heads) = walk d enclosing heads ≡ Err e
Fails e (listing d enclosing heads) = fields d enclosing heads ≡ Err e
Fails e (field_after before d enclosing heads) = field d before enclosing heads ≡ Err e

abbrev pub IsObject : Data → Type 0
IsObject d = true ≡ is_some (as_object d)

-- the value is an object, and its `type` makes this of it
pub record IsOfForm (f : Form) (d : Data) : Type 0 where
  pub object : IsObject d
  pub form : form_of (get (codes "type") d) ≡ f

-- the walk of branches, one after another, comes to the one at a position, after these heads
pub data MemberAt (enclosing : List ℕ) : Items → List Head → ℕ → Data → List Head → Type 0 where
  first_member : {d : Data} {ds : Items} {heads : List Head} → MemberAt enclosing (item d ds) heads 0 d heads
  next_member : {c d : Data} {ds : Items} {heads more : List Head} {n i : ℕ} {added : List Draft}
      → walk c enclosing heads ≡ Ok (n, added) → MemberAt enclosing ds (heads ++ heads_of added) i d more
      → MemberAt enclosing (item c ds) heads (suc i) d more

-- the walk of fields, one after another, comes to the one at a position, after those of such names and these heads
pub data FieldAt (enclosing : List ℕ) : Items → List (List ℕ) → List Head → ℕ → Visit → Type 0 where
  first_field : {d : Data} {ds : Items} {before : List (List ℕ)} {heads : List Head}
      → FieldAt enclosing (item d ds) before heads 0 (field_after before d enclosing heads)
  next_field : {c : Data} {ds : Items} {before : List (List ℕ)} {heads : List Head} {f : DraftField} {i : ℕ}
      {added : List Draft} {w : Visit} → field c before enclosing heads ≡ Ok (f, added)
      → FieldAt enclosing ds (before ++ f.name ∷ []) (heads ++ heads_of added) i w
      → FieldAt enclosing (item c ds) before heads (suc i) w

-- the walk of a value comes to a part of it, by this step
pub data ComesTo : Visit → Step → Visit → Type 0 where
  -- "Unions"
  to_member : {ds : Items} {enclosing : List ℕ} {heads more : List Head} {i : ℕ} {d : Data}
      → length heads < MOST_NODES → MemberAt enclosing ds (heads ++ UnionHead ∷ []) i d more
      → ComesTo (schema (array ds) enclosing heads) (steps.At i) (schema d enclosing more)
  -- "Arrays"
  to_items : {d c : Data} {enclosing : List ℕ} {heads : List Head} → IsOfForm forms.Array d
      → length heads < MOST_NODES → get (codes "items") d ≡ Some c
      → ComesTo (schema d enclosing heads) steps.Items (schema c enclosing (heads ++ ArrayHead ∷ []))
  -- "Maps"
  to_values : {d c : Data} {enclosing : List ℕ} {heads : List Head} → IsOfForm forms.Map d
      → length heads < MOST_NODES → get (codes "values") d ≡ Some c
      → ComesTo (schema d enclosing heads) steps.Values (schema c enclosing (heads ++ MapHead ∷ []))
  -- an object that wraps a schema
  to_wrapped : {d c : Data} {enclosing : List ℕ} {heads : List Head} → IsOfForm forms.Other d
      → get (codes "type") d ≡ Some c → ComesTo (schema d enclosing heads) steps.Type (schema c enclosing heads)
  -- "Records"
  to_fields : {d c : Data} {enclosing : List ℕ} {heads : List Head} {names : Names} → IsOfForm forms.Record d
      → length heads < MOST_NODES
      → new_names (get (codes "name") d) (get (codes "namespace") d) (get (codes "aliases") d) enclosing heads
      ≡ Ok names
      → get (codes "fields") d ≡ Some c
      → ComesTo (schema d enclosing heads) steps.Fields
      (listing c (namespace_of names.full) (heads ++ Named names.full ∷ []))
  to_field : {ds : Items} {enclosing : List ℕ} {heads : List Head} {i : ℕ} {w : Visit}
      → FieldAt enclosing ds [] heads i w → ComesTo (listing (array ds) enclosing heads) (steps.At i) w
  to_type : {d c : Data} {before : List (List ℕ)} {enclosing : List ℕ} {heads : List Head} {name : List ℕ}
      {aliases : List (List ℕ)} → length before < MOST_FIELDS → field_name (get (codes "name") d) before ≡ Ok name
      → field_aliases (get (codes "aliases") d) ≡ Ok aliases → get (codes "type") d ≡ Some c
      → ComesTo (field_after before d enclosing heads) steps.Type (schema c enclosing heads)

-- the walk comes from a value to another by these steps
pub data Comes : Visit → Path → Visit → Type 0 where
  itself : {v : Visit} → Comes v [] v
  further : {v w u : Visit} {s : Step} {q : Path} → ComesTo v s w → Comes w q u → Comes v (s ∷ q) u

-- no part that the walk comes to is at fault
abbrev pub HasSoundParts : Visit → Type 0
HasSoundParts v = (s : Step) (w : Visit) (e : SchemaError) → ComesTo v s w → ¬ (Fails e w)

-- The path leads from a value to the smallest in it that is at fault.
pub data IsFault (e : SchemaError) : Visit → Path → Type 0 where
  here : {v : Visit} → Fails e v → HasSoundParts v → IsFault e v []
  within : {v w : Visit} {s : Step} {q : Path} → ComesTo v s w → IsFault e w q → IsFault e v (s ∷ q)
