-- The defaults of fields and of nodes, one after another, and the fields and nodes beside them.
use Rattle.std.proofs.Common.{◌≡◌, ℕ, ◌+◌, ◌<◌, ◌≤◌, List, [], ◌∷◌, ◌++◌, length, drop, get_or, map, Option, Some, option_map, option_and_then, Ok, Err, refl, ap, ◌∙◌}
use Rattle.std.specs.Global.{Vec}
use Rattle.std.specs.List.{zip}
use Rattle.std.specs.Option.{ok_or}
use Rattle.std.proofs.Math.ListN.{drop_of_length-le}
use Rattle.avro_types.specs.declared.datum.Datum as rust
use Rattle.avro_schema_names.specs.declared.draft.Draft as rust_draft
use Rattle.avro_schema_names.specs.declared.draft.DraftField as rust_field
use Rattle.spec_schema.specs.declared.schema_error.SchemaError.{SchemaError}
use Rattle.spec_schema.specs.declared.schema_error.SchemaError.TheVariants.{BadDefault}
use Rattle.spec_avro.specs.Datum.{Datum}
use Rattle.avro_types.specs.Datum.{datum_of}
use Rattle.spec_schema.specs.Defaults.{all_defaults, field_default, field_defaults, field_with, fields_with, node_defaults, node_with, nodes_with}
use Rattle.spec_schema.specs.Draft.{Draft}
use Rattle.avro_schema_names.specs.Draft.{data_at, draft_field_of, draft_of, drafts_of}
use Rattle.spec_avro.specs.Node.{FieldNode, Node}
use Rattle.avro_schema.proofs.OneByOne.{before, next, one-on, one-fails}
use Rattle.avro_schema_names.specs.Laws.Plain.{map-push}

-- ---- a list of what was read

-- what a read one is, at the head of the others
abbrev pub first_as : {R D : Type 0} → (R → D) → R → List D → List D
first_as g r ds = g r ∷ ds

before-map : {R D : Type 0} (g : R → D) (front : List R) → before (first_as g) front [] ≡ map g front
before-map g [] = refl
before-map g (r ∷ front) = ap (λ ds. g r ∷ ds) (before-map g front)

module _ {A R D : Type 0} (f : A → Option D) (g : R → D) (read : List A → Option (List D)) (ends : read [] ≡ Some [])
    (steps : (a : A) (rest : List A) → read (a ∷ rest) ≡ option_and_then (λ d. option_map (λ ds. d ∷ ds) (read rest)) (f a)) where
  pub row-on : (xs : List A) (i : ℕ) (x : A) → i < length xs → x ≡ get_or xs i x → (front : List R) (r : R) → ok_or (f x) BadDefault ≡ Ok (g r)
      → option_map (before (first_as g) front) (read (drop i xs)) ≡ option_map (before (first_as g) (front ++ r ∷ [])) (read (drop (i + 1) xs))
  row-on xs i x lt is front r told = rw (next xs i x lt is) (one-on f (λ a d ds. d ∷ ds) read (first_as g) steps front x (drop (i + 1) xs) r (g r) refl told)

  pub row-fails : (xs : List A) (i : ℕ) (x : A) → i < length xs → x ≡ get_or xs i x → (front : List R) (e : SchemaError) → ok_or (f x) BadDefault ≡ Err e
      → ok_or (option_map (before (first_as g) front) (read (drop i xs))) BadDefault ≡ Err e
  row-fails xs i x lt is front e told = rw (next xs i x lt is) (one-fails f (λ a d ds. d ∷ ds) read (first_as g) steps front x (drop (i + 1) xs) e told)

  pub row-ends : (xs : List A) (i : ℕ) → length xs ≤ i → (front : List R) → option_map (before (first_as g) front) (read (drop i xs)) ≡ Some (map g front)
  row-ends xs i le front = rw (drop_of_length-le xs le, ends) (ap Some (before-map g front))

-- ---- the defaults of fields, and of nodes

abbrev pub field_read : List Draft → rust_field.DraftField → Option (Option Datum)
field_read ds f = field_default ds f.node (data_at f.default)

abbrev pub fields_read : List Draft → List rust_field.DraftField → Option (List (Option Datum))
fields_read ds fs = field_defaults ds (map draft_field_of fs)

pub fields_read-steps : (ds : List Draft) (f : rust_field.DraftField) (rest : List rust_field.DraftField) → fields_read ds (f ∷ rest) ≡ option_and_then (λ d. option_map (λ ds. d ∷ ds) (fields_read ds rest)) (field_read ds f)
fields_read-steps ds f rest = refl

abbrev pub row_of : Vec (Option rust.Datum) → List (Option Datum)
row_of v = map (option_map datum_of) v.items

abbrev pub node_read : List Draft → rust_draft.Draft → Option (List (Option Datum))
node_read ds d = node_defaults ds (draft_of d)

abbrev pub nodes_read : List Draft → List rust_draft.Draft → Option (List (List (Option Datum)))
nodes_read ds rest = all_defaults ds (drafts_of rest)

pub nodes_read-steps : (ds : List Draft) (d : rust_draft.Draft) (rest : List rust_draft.Draft) → nodes_read ds (d ∷ rest) ≡ option_and_then (λ own. option_map (λ all. own ∷ all) (nodes_read ds rest)) (node_read ds d)
nodes_read-steps ds d rest = refl

-- ---- each beside its defaults

abbrev pub field_from : rust_field.DraftField × Option rust.Datum → FieldNode
field_from p = field_with (draft_field_of p.0) (option_map datum_of p.1)

fields_with-zip : (fs : List rust_field.DraftField) (ds : List (Option rust.Datum)) → map field_from (zip fs ds) ≡ fields_with (map draft_field_of fs) (map (option_map datum_of) ds)
fields_with-zip [] ds = refl
fields_with-zip (f ∷ fs) [] = refl
fields_with-zip (f ∷ fs) (d ∷ ds) = ap (λ rest. field_from (f, d) ∷ rest) (fields_with-zip fs ds)

fields-pairs : (ps : List (rust_field.DraftField × Option rust.Datum)) → map field_from ps ≡ map field_from (map (λ p. (p.0, p.1)) ps)
fields-pairs [] = refl
fields-pairs (p ∷ ps) = ap (λ rest. field_from p ∷ rest) (fields-pairs ps)

pub fields-zipped : (ps : List (rust_field.DraftField × Option rust.Datum)) (fs : List rust_field.DraftField) (ds : List (Option rust.Datum)) → map (λ p. (p.0, p.1)) ps ≡ zip fs ds
    → map field_from ps ≡ fields_with (map draft_field_of fs) (map (option_map datum_of) ds)
fields-zipped ps fs ds all = fields-pairs ps ∙ ap (map field_from) all ∙ fields_with-zip fs ds

abbrev pub node_from : rust_draft.Draft × Vec (Option rust.Datum) → Node
node_from p = node_with (draft_of p.0) (row_of p.1)

nodes_with-zip : (ds : List rust_draft.Draft) (all : List (Vec (Option rust.Datum))) → map node_from (zip ds all) ≡ nodes_with (drafts_of ds) (map row_of all)
nodes_with-zip [] all = refl
nodes_with-zip (d ∷ ds) [] = refl
nodes_with-zip (d ∷ ds) (own ∷ all) = ap (λ rest. node_from (d, own) ∷ rest) (nodes_with-zip ds all)

nodes-pairs : (ps : List (rust_draft.Draft × Vec (Option rust.Datum))) → map node_from ps ≡ map node_from (map (λ p. (p.0, p.1)) ps)
nodes-pairs [] = refl
nodes-pairs (p ∷ ps) = ap (λ rest. node_from p ∷ rest) (nodes-pairs ps)

pub nodes-zipped : (ps : List (rust_draft.Draft × Vec (Option rust.Datum))) (ds : List rust_draft.Draft) (all : List (Vec (Option rust.Datum))) → map (λ p. (p.0, p.1)) ps ≡ zip ds all
    → map node_from ps ≡ nodes_with (drafts_of ds) (map row_of all)
nodes-zipped ps ds all zipped = nodes-pairs ps ∙ ap (map node_from) zipped ∙ nodes_with-zip ds all
