-- What a step of the walk says of the nodes that it leaves.
use Rattle.std.specs.Prelude.{◌≡◌, ◌≢◌, ℕ, List, Option, option_map, codes, Result, Ok, Err}
use Rattle.serde_json.specs.Data.{Data}
use Rattle.serde_json.specs.Find.{get}
use Rattle.spec_schema.specs.declared.schema_error.SchemaError.{SchemaError}
use Rattle.spec_schema.specs.declared.schema_error.SchemaError.TheVariants.{NoMemory}
use Rattle.spec_schema.specs.declared.word.Form.{Form}
use Rattle.spec_schema.specs.Draft.{Draft, DraftField, Whole}
use Rattle.spec_schema.specs.Head.{head_of_node, heads_of}
use Rattle.spec_schema.specs.Walk.{Walk, added, around, declared_by, field_of, fields, if_few, if_room, or_unknown, walk}
use Rattle.avro_schema.specs.Holder.{holder_node}
use Rattle.avro_schema.specs.declared.holder.Holder.{Holder}
use Rattle.spec_schema.specs.Word.{form_of}

-- a walk after nodes that are already there: the value, and all nodes
unfoldable pub run : {A : Type 0} → Walk A → List ℕ → List Draft → Result (A × List Draft) SchemaError
run w enclosing drafts = added drafts (w enclosing (heads_of drafts))

-- the walk leaves these nodes of those before it, and gives the answer, unless memory ran out
abbrev pub Walks : {R A : Type 0} → (R → A) → Result R SchemaError → Walk A → List ℕ → List Draft → List Draft → Type 0
Walks f (Ok r) w enclosing before after = run w enclosing before ≡ Ok (f r, after)
Walks f (Err e) w enclosing before after = e ≢ NoMemory → run w enclosing before ≡ Err e

-- ---- the walk of an object, with each attribute looked up

-- an object of that form
abbrev pub object_as : Form → Data → Walk ℕ
object_as form d = declared_by form (λ k. get k d) (λ k. option_map walk (get k d)) (λ k. option_map fields (get k d))

unfoldable pub object_walk : Data → Walk ℕ
object_walk d = object_as (form_of (get (codes "type") d)) d

unfoldable pub field_walk : Data → List (List ℕ) → Walk DraftField
field_walk d before =
    if_few before (field_of (get (codes "name") d) (get (codes "aliases") d) (option_map walk (get (codes "type") d))
    (get (codes "default") d) before)

-- an array or a map, before the type of what it holds
unfoldable pub holder_walk : Holder → Option Data → Walk ℕ
holder_walk holder inner =
    if_room (around (λ n. Whole (holder_node holder n)) (head_of_node (holder_node holder 0)) (or_unknown (option_map
    walk inner)))
