-- The fault of a value, and that of a text.
use Rattle.std.proofs.Common.{◌≡◌, ◌≢◌, ◌<◌, ◌≤◌, ℕ, List, [], ◌∷◌, ◌++◌, length, true, false, Option, Some, None, Result, Ok, Err, refl, sym, ap, subst, ◌∙◌}
use Rattle.std.specs.Option.{ok_or}
use Rattle.serde_json.specs.Data.{Data}
use Rattle.serde_json.specs.Read.{read}
use Rattle.serde_json.specs.Written.{has_float}
use Rattle.spec_avro.specs.Datum.{Datum}
use Rattle.spec_avro.specs.Node.{Node}
use Rattle.spec_avro.specs.declared.limits.TheConstants.{MOST_TEXT}
use Rattle.spec_schema.specs.Schema.{declared, nodes_in_read}
use Rattle.avro_schema.proofs.Declared.{declared-is, finished-err, finished-ok, small, too-large}
use Rattle.spec_schema.specs.Defaults.{nodes_with}
use Rattle.spec_schema.specs.Draft.{Draft}
use Rattle.spec_schema.specs.Names.{null_namespace}
use Rattle.spec_schema.specs.declared.schema_error.SchemaError.{SchemaError}
use Rattle.spec_schema.specs.declared.schema_error.SchemaError.TheVariants.{BadDefault, BadNumber, NoMemory, NotJson, TooLarge}
use Rattle.avro_schema_paths.specs.Places.{Path}
use Rattle.avro_schema_paths.specs.declared.step.Step.TheVariants as steps
use Rattle.avro_schema.specs.Contract.{run}
use Rattle.spec_schema.specs.Walk.{walk}
use Rattle.avro_schema_faults.specs.declared.faults.Fault.{Fault}
use Rattle.avro_schema_faults.specs.DefaultPlaces.{first_bad}
use Rattle.avro_schema_faults.specs.Faults.{IsFault, schema}
use Rattle.avro_schema_faults.specs.Fractions.{EndsAtFraction}
use Rattle.avro_schema_faults.specs.Places.{Finds, FindsIn, IsFaultIn, IsFaultOf, IsPlace, IsWholeFault, of_default, of_length, of_number, of_schema, of_text, of_value, of_walk}
use Rattle.avro_schema_faults.specs.Searching.{LeadsToField}
use Rattle.avro_schema_faults.specs.Trail.{Ends}
use Rattle.avro_schema_faults.proofs.Bounds.{gives-after}
use Rattle.avro_schema_faults.proofs.FirstBad.{all-bad, all-good, first-is, first-is_record}

-- ---- the walk, and then the defaults

pub walk-failed : (d : Data) (e : SchemaError) (before after : Path) → before ≡ [] → run (walk d) null_namespace [] ≡ Err e → Ends e (schema d null_namespace []) before after → (declared d ≡ Err e) × IsPlace d e after
walk-failed d e before after nothing ran h =
    let is : after ≡ h.path = h.is ∙ ap (λ (b : Path). b ++ h.path) nothing in
    (declared-is d ∙ rw ran refl, of_walk (subst (λ (q : Path). IsFault e (schema d null_namespace []) q) (sym is) h.fault))

walk-gives : (d : Data) (n : ℕ) (ls : List Draft) → run (walk d) null_namespace [] ≡ Ok (n, ls) → walk d null_namespace [] ≡ Ok (n, ls)
walk-gives d n ls ran = let g = gives-after (walk d) null_namespace [] n ls ran in g.gives ∙ ap (λ (xs : List Draft). Ok (n, xs)) g.all

pub default-failed : (d : Data) (n : ℕ) (ls : List Draft) (m i : ℕ) (before after : Path) → run (walk d) null_namespace [] ≡ Ok (n, ls) → first_bad ls 0 ls ≡ Some (record { node = m; position = i }) → before ≡ [] → LeadsToField d m i before after → (declared d ≡ Err BadDefault) × IsPlace d BadDefault after
default-failed d n ls m i before after ran bad nothing leads =
    let first = first-is ls m i bad in
    let gives = walk-gives d n ls ran in
    let fault = finished-err ls BadDefault (ap (λ (o : Option (List (List (Option Datum)))). ok_or o BadDefault) (all-bad ls 0 ls (record { node = m; position = i }) bad)) in
    let ends = leads ls (n, gives) (first-is_record ls m i first.has) in
    let own = ends.path ++ steps.Fields ∷ steps.At i ∷ [] in
    let is : after ≡ own = ends.is ∙ ap (λ (b : Path). b ++ own) nothing in
    (declared-is d ∙ rw ran fault, subst (λ (q : Path). IsPlace d BadDefault q) (sym is) (of_default gives first ends.record_is))

pub all-read : (d : Data) (n : ℕ) (ls : List Draft) → run (walk d) null_namespace [] ≡ Ok (n, ls) → first_bad ls 0 ls ≡ None → (nodes : List Node) × (declared d ≡ Ok nodes)
all-read d n ls ran none =
    let good = all-good ls 0 ls none in
    let all = ap (λ (o : Option (List (List (Option Datum)))). ok_or o BadDefault) good.1 in
    (nodes_with ls good.0, declared-is d ∙ rw ran (finished-ok ls good.0 all))

-- ---- a value

pub number-found : (d : Data) (f : Fault) → true ≡ has_float d → f.error ≡ BadNumber → (before : Path) → before ≡ [] → EndsAtFraction d before f.path.items → IsFaultIn d f
number-found d f is bad before nothing ends =
    let path : f.path.items ≡ ends.path = ends.is ∙ ap (λ (b : Path). b ++ ends.path) nothing in
    record { error = rw (← is, bad) refl; place = rw (bad, path) (of_number (sym is) ends.fraction) }

pub fault-found : (d : Data) (f : Fault) → false ≡ has_float d → f.error ≢ NoMemory → (f.error ≢ NoMemory → (declared d ≡ Err f.error) × IsPlace d f.error f.path.items) → IsFaultIn d f
fault-found d f is known h = let p = h known in record { error = rw (← is) p.0; place = of_schema (sym is) p.1 }

-- ---- a text

pub length-found : (text : List ℕ) (f : Fault) → MOST_TEXT < length text → IsWholeFault TooLarge f → IsFaultOf text f
length-found text f long w = record { error = rw w.error (too-large text long); place = rw (w.error, w.path) (of_length long) }

pub text-found : (text : List ℕ) (f : Fault) → length text ≤ MOST_TEXT → read text ≡ None → IsWholeFault NotJson f → IsFaultOf text f
text-found text f short none w = record { error = rw w.error (small text short ∙ ap nodes_in_read none); place = rw (w.error, w.path) (of_text short none) }

pub value-found : {E : Type 0} (result : Result (Option Fault) E) (text : List ℕ) (d : Data) → length text ≤ MOST_TEXT → read text ≡ Some d → FindsIn result d → Finds result text
value-found (Ok None) text d short is h = (h.0, small text short ∙ ap nodes_in_read is ∙ h.1)
value-found (Ok (Some f)) text d short is h = record { error = small text short ∙ ap nodes_in_read is ∙ h.error; place = of_value short is h.place }
value-found (Err e) text d short is h = tt
