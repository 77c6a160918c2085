-- Where the steps to a fault lead.
use Rattle.std.proofs.Common.{◌≡◌, ℕ, List, [], Some, option_and_then, refl, ap, ◌∙◌}
use Rattle.serde_json.specs.Data.{Data, Items}
use Rattle.serde_json.specs.Find.{get_item}
use Rattle.spec_schema.specs.Head.{Head}
use Rattle.spec_schema.specs.Names.{null_namespace}
use Rattle.spec_schema.specs.declared.schema_error.SchemaError.{SchemaError}
use Rattle.avro_schema_paths.specs.Following.{follow, step_in}
use Rattle.avro_schema_paths.specs.Places.{Path}
use Rattle.avro_schema_paths.specs.declared.step.Step.{Step}
use Rattle.avro_schema_faults.specs.DefaultPlaces.{IsRecordAt}
use Rattle.avro_schema_faults.specs.Faults.{Comes, ComesTo, FieldAt, IsFault, MemberAt, Visit, first_field, first_member, further, here, itself, next_field, next_member, schema, to_field, to_fields, to_items, to_member, to_type, to_values, to_wrapped, within}
use Rattle.avro_schema_faults.specs.Laws.{LeadsToFault, LeadsToRecord, value_in}

member-there : (enclosing : List ℕ) (ds : Items) (heads : List Head) (i : ℕ) (d : Data) (more : List Head) → MemberAt enclosing ds heads i d more → get_item i ds ≡ Some d
member-there enclosing ds heads i d more first_member = refl
member-there enclosing ds heads i d more (next_member {ds = rest} {i = j} ran at) = member-there enclosing rest _ j d more at

field-there : (enclosing : List ℕ) (ds : Items) (before : List (List ℕ)) (heads : List Head) (i : ℕ) (w : Visit) → FieldAt enclosing ds before heads i w → get_item i ds ≡ Some (value_in w)
field-there enclosing ds before heads i w first_field = refl
field-there enclosing ds before heads i w (next_field {ds = rest} {i = j} ran at) = field-there enclosing rest _ _ j w at

-- the step leads to the part
pub step-there : (v w : Visit) (s : Step) → ComesTo v s w → step_in s (value_in v) ≡ Some (value_in w)
step-there v w s (to_member {ds = ds} {enclosing = enclosing} {heads = heads} {more = more} {i = i} {d = d} room at) = member-there enclosing ds _ i d more at
step-there v w s (to_items form room found) = found
step-there v w s (to_values form room found) = found
step-there v w s (to_wrapped form found) = found
step-there v w s (to_fields form room named found) = found
step-there v w s (to_field {ds = ds} {enclosing = enclosing} {heads = heads} {i = i} at) = field-there enclosing ds [] heads i w at
step-there v w s (to_type few named aliased found) = found

pub leads : (e : SchemaError) (root : Visit) (path : Path) → IsFault e root path → LeadsToFault e root path
leads e root path (here fails sound) = record { found = root; at = refl; comes = itself; fails = fails; sound = sound }
leads e root path (within {v = v} {w = w} {s = s} {q = q} comes h) =
    let r = leads e w q h in
    record { found = r.found; at = ap (option_and_then (follow q)) (step-there v w s comes) ∙ r.at; comes = further comes r.comes; fails = r.fails; sound = r.sound }

-- the steps of a walk lead to the value that it comes to
comes-there : (v w : Visit) (path : Path) → Comes v path w → follow path (value_in v) ≡ Some (value_in w)
comes-there v w path itself = refl
comes-there v w path (further {w = u} {s = s} {q = q} step rest) = ap (option_and_then (follow q)) (step-there v u s step) ∙ comes-there u w q rest

pub leads-to-record : (d : Data) (node : ℕ) (path : Path) → IsRecordAt d node path → LeadsToRecord d path
leads-to-record d node path r = record { value = r.value; at = comes-there (schema d null_namespace []) (schema r.value r.enclosing r.heads) path r.comes; form = r.form }
