-- The walk of a record's fields, one after another.
use Rattle.std.proofs.Common.{◌≡◌, ℕ, ◌+◌, ◌<◌, ◌≤◌, suc, List, [], ◌∷◌, ◌++◌, length, drop, get_or, true, Option, option_map, Result, Ok, Err, refl, sym, ap, ◌∙◌, append_assoc, append-nil, add-one, codes, is_some}
use Rattle.std.proofs.lemmas.Bool.{lt-ltb, le-ltb}
use Rattle.std.proofs.Math.Seq.{drop-cons}
use Rattle.std.proofs.Math.ListN.{drop_of_length-le}
use Rattle.serde_json.specs.Data.{Data, Items, item}
use Rattle.serde_json.specs.Find.{get, as_object}
use Rattle.serde_json.specs.View.{view, items_view}
use Rattle.serde_json.specs.declared.value.Value.{Value}
use Rattle.spec_avro.specs.declared.limits.TheConstants.{MOST_FIELDS}
use Rattle.spec_schema.specs.declared.schema_error.SchemaError.{SchemaError}
use Rattle.spec_schema.specs.declared.schema_error.SchemaError.TheVariants.{TooLarge}
use Rattle.spec_schema.specs.Aliases.{field_aliases}
use Rattle.avro_schema.specs.Contract.{run, field_walk}
use Rattle.spec_schema.specs.Steps.{◌>>=◌}
use Rattle.spec_schema.specs.Names.{field_name}
use Rattle.spec_schema.specs.Draft.{Draft, DraftField, draft_field}
use Rattle.avro_schema_names.specs.Draft.{field_names}
use Rattle.spec_schema.specs.Head.{heads_of}
use Rattle.spec_schema.specs.Walk.{Walk, added, done, followed_by, or_unknown, field_of, walk, fields_after, field}
use Rattle.avro_schema.proofs.Members.{field-object}
use Rattle.avro_schema.proofs.Runs.{run-followed_by, run-done, run-mapped}

-- what was walked, after what was walked before
abbrev pub behind : {A : Type 0} → List A → Result (List A × List Draft) SchemaError → Result (List A × List Draft) SchemaError
behind front (Ok p) = Ok (front ++ p.0, p.1)
behind front (Err e) = Err e

pub behind-one : {A : Type 0} (front : List A) (a : A) (r : Result (List A × List Draft) SchemaError) → behind front (r >>= λ q. Ok (a ∷ q.0, q.1)) ≡ behind (front ++ a ∷ []) r
behind-one front a (Ok p) = ap (λ xs. Ok (xs, p.1)) (sym (append_assoc front (a ∷ []) p.0))
behind-one front a (Err e) = refl

abbrev first_field : DraftField → Result (List DraftField × List Draft) SchemaError → Result (List DraftField × List Draft) SchemaError
first_field f r = r >>= λ q. Ok (f ∷ q.0, q.1)

item_at : (ds : Items) (before : List (List ℕ)) (enclosing : List ℕ) (r : Result (DraftField × List Draft) SchemaError)
    → (r >>= λ p. run (followed_by (fields_after ds (before ++ p.0.name ∷ [])) (λ fs. done (p.0 ∷ fs))) enclosing p.1) ≡ (r >>= λ p. first_field p.0 (run (fields_after ds (before ++ p.0.name ∷ [])) enclosing p.1))
item_at ds before enclosing (Ok p) = run-mapped (fields_after ds (before ++ p.0.name ∷ [])) (λ fs. p.0 ∷ fs) enclosing p.1
item_at ds before enclosing (Err e) = refl

run-item : (d : Data) (ds : Items) (before : List (List ℕ)) (enclosing : List ℕ) (ns : List Draft)
    → run (fields_after (item d ds) before) enclosing ns ≡ (run (field d before) enclosing ns >>= λ p. first_field p.0 (run (fields_after ds (before ++ p.0.name ∷ [])) enclosing p.1))
unfolding walk
run-item d ds before enclosing ns = run-followed_by (field d before) _ enclosing ns ∙ item_at ds before enclosing (run (field d before) enclosing ns)

module _ (enclosing : List ℕ) (vs : List Value) (i : ℕ) (v : Value) (lt : i < length vs) (is : v ≡ get_or vs i v) (front : List DraftField) (before : List (List ℕ)) (ns : List Draft) where
  here : drop i vs ≡ v ∷ drop (i + 1) vs
  here = drop-cons vs i v lt ∙ rw (← is, add-one i)

  pub fields-on : (f : DraftField) (ms : List Draft) → run (field (view v) before) enclosing ns ≡ Ok (f, ms)
      → behind front (run (fields_after (items_view (drop i vs)) before) enclosing ns) ≡ behind (front ++ f ∷ []) (run (fields_after (items_view (drop (i + 1) vs)) (before ++ f.name ∷ [])) enclosing ms)
  fields-on f ms e = rw (here, run-item (view v) (items_view (drop (i + 1) vs)) before enclosing ns, e) (behind-one front f (run (fields_after (items_view (drop (i + 1) vs)) (before ++ f.name ∷ [])) enclosing ms))

  pub fields-fail : (e : SchemaError) → run (field (view v) before) enclosing ns ≡ Err e → behind front (run (fields_after (items_view (drop i vs)) before) enclosing ns) ≡ Err e
  fields-fail e is_err = rw (here, run-item (view v) (items_view (drop (i + 1) vs)) before enclosing ns, is_err)

pub fields-end : (enclosing : List ℕ) (vs : List Value) (i : ℕ) → length vs ≤ i → (front : List DraftField) (before : List (List ℕ)) (ns : List Draft)
    → behind front (run (fields_after (items_view (drop i vs)) before) enclosing ns) ≡ Ok (front, ns)
unfolding walk
fields-end enclosing vs i le front before ns = rw (drop_of_length-le vs le, run-done {A = List DraftField} [] enclosing ns) (ap (λ xs. Ok (xs, ns)) (append-nil front))

-- ---- a field

-- a field, once its name and its aliases are known
abbrev pub typed : Option Data → List ℕ → List (List ℕ) → Result (ℕ × List Draft) SchemaError → Result (DraftField × List Draft) SchemaError
typed default s others r = r >>= λ p. Ok (draft_field s others p.0 default, p.1)

type_at : (default : Option Data) (s : List ℕ) (others : List (List ℕ)) (ns : List Draft) (r : Result (ℕ × List Draft) SchemaError) → added ns (typed default s others r) ≡ typed default s others (added ns r)
type_at default s others ns (Ok p) = refl
type_at default s others ns (Err e) = refl

module _ (default : Option Data) (w : Walk ℕ) (enclosing : List ℕ) (ns : List Draft) where
  aliases_at : (s : List ℕ) (r : Result (List (List ℕ)) SchemaError) → added ns (r >>= λ others. typed default s others (w enclosing (heads_of ns))) ≡ (r >>= λ others. typed default s others (run w enclosing ns))
  unfolding run
  aliases_at s (Ok others) = type_at default s others ns (w enclosing (heads_of ns))
  aliases_at s (Err e) = refl

  name_at : (aliases : Result (List (List ℕ)) SchemaError) (r : Result (List ℕ) SchemaError)
      → added ns (r >>= λ s. aliases >>= λ others. typed default s others (w enclosing (heads_of ns))) ≡ (r >>= λ s. aliases >>= λ others. typed default s others (run w enclosing ns))
  name_at aliases (Ok s) = aliases_at s aliases
  name_at aliases (Err e) = refl

length-names : (fs : List DraftField) → length (field_names fs) ≡ length fs
length-names [] = refl
length-names (f ∷ fs) = ap suc (length-names fs)

module _ (d : Data) (fs : List DraftField) (enclosing : List ℕ) (ns : List Draft) (is : true ≡ is_some (as_object d)) where
  pub run-field : length fs < MOST_FIELDS
      → run (field d (field_names fs)) enclosing ns ≡ (field_name (get (codes "name") d) (field_names fs) >>= λ s. field_aliases (get (codes "aliases") d) >>= λ others. typed (get (codes "default") d) s others (run (or_unknown (option_map walk (get (codes "type") d))) enclosing ns))
  unfolding run field_walk field_of
  run-field few = rw (field-object d (field_names fs) is, length-names fs, lt-ltb (length fs) MOST_FIELDS few) (name_at (get (codes "default") d) (or_unknown (option_map walk (get (codes "type") d))) enclosing ns (field_aliases (get (codes "aliases") d)) (field_name (get (codes "name") d) (field_names fs)))

  pub run-many : MOST_FIELDS ≤ length fs → run (field d (field_names fs)) enclosing ns ≡ Err TooLarge
  unfolding run field_walk
  run-many many = rw (field-object d (field_names fs) is, length-names fs, le-ltb (length fs) MOST_FIELDS many) refl
