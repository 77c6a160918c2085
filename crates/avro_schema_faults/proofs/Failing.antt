-- The walk of a value ends with the fault of a part that it comes to.
use Rattle.std.proofs.Common.{◌≡◌, ◌<◌, ℕ, List, [], ◌∷◌, ◌++◌, length, true, is_some, Option, Some, option_map, Ok, Err, refl, ap, ◌∙◌, codes}
use Rattle.std.proofs.lemmas.Bool.{lt-ltb}
use Rattle.serde_json.specs.Data.{Data, array, object, Items}
use Rattle.serde_json.specs.Find.{as_object, get}
use Rattle.spec_avro.specs.FullNames.{namespace_of}
use Rattle.spec_avro.specs.Node.{ArrayNode, MapNode, Names}
use Rattle.spec_avro.specs.declared.limits.TheConstants.{MOST_FIELDS, MOST_NODES}
use Rattle.spec_schema.specs.Draft.{Draft, DraftField, Whole}
use Rattle.spec_schema.specs.Head.{ArrayHead, Head, MapHead, Named, UnionHead, heads_of}
use Rattle.spec_schema.specs.Aliases.{field_aliases, new_names}
use Rattle.spec_schema.specs.Names.{field_name}
use Rattle.spec_schema.specs.declared.schema_error.SchemaError.{SchemaError}
use Rattle.spec_schema.specs.declared.word.Form.TheVariants as forms
use Rattle.avro_schema_paths.specs.Places.{Path}
use Rattle.avro_schema_paths.specs.declared.step.Step.{Step}
use Rattle.avro_schema.specs.Contract.{field_walk}
use Rattle.spec_schema.specs.Walk.{Walk, around, field, field_of, fields, fields_after, followed_by, if_few, if_room, members, or_unknown, record_of, union_of, walk}
use Rattle.avro_schema.proofs.Members.{field-object}
use Rattle.avro_schema_faults.specs.Faults.{ComesTo, Fails, FieldAt, IsFault, MemberAt, Visit, first_field, first_member, here, next_field, next_member, to_field, to_fields, to_items, to_member, to_type, to_values, to_wrapped, within}
use Rattle.avro_schema_faults.proofs.Sound.{walk-of_form}

module _ {A B : Type 0} (w : Walk A) (rest : A → Walk B) (enclosing : List ℕ) (heads : List Head) (e : SchemaError) where
  followed-failed : w enclosing heads ≡ Err e → followed_by w rest enclosing heads ≡ Err e
  unfolding followed_by
  followed-failed bad = rw bad refl

  followed-later : (a : A) (new : List Draft) → w enclosing heads ≡ Ok (a, new) → rest a enclosing (heads ++ heads_of new) ≡ Err e → followed_by w rest enclosing heads ≡ Err e
  unfolding followed_by
  followed-later a new ran bad = rw (ran, bad) refl

member-fails : (enclosing : List ℕ) (ds : Items) (heads : List Head) (i : ℕ) (d : Data) (more : List Head) (e : SchemaError) → MemberAt enclosing ds heads i d more → walk d enclosing more ≡ Err e → members ds enclosing heads ≡ Err e
unfolding walk
member-fails enclosing ds heads i d more e first_member bad = followed-failed (walk d) _ enclosing heads e bad
member-fails enclosing ds heads i d more e (next_member {c = c} {ds = rest} {n = n} {i = j} {added = added} ran at) bad =
    followed-later (walk c) _ enclosing heads e n added ran
    (followed-failed (members rest) _ enclosing (heads ++ heads_of added) e (member-fails enclosing rest (heads ++ heads_of added) j d more e at bad))

field-fails : (enclosing : List ℕ) (ds : Items) (before : List (List ℕ)) (heads : List Head) (i : ℕ) (w : Visit) (e : SchemaError) → FieldAt enclosing ds before heads i w → Fails e w → fields_after ds before enclosing heads ≡ Err e
unfolding walk
field-fails enclosing ds before heads i w e (first_field {d = d}) bad = followed-failed (field d before) _ enclosing heads e bad
field-fails enclosing ds before heads i w e (next_field {c = c} {ds = rest} {f = f} {i = j} {added = added} ran at) bad =
    followed-later (field c before) _ enclosing heads e f added ran
    (followed-failed (fields_after rest (before ++ f.name ∷ [])) _ enclosing (heads ++ heads_of added) e (field-fails enclosing rest (before ++ f.name ∷ []) (heads ++ heads_of added) j w e at bad))

union-up : (ds : Items) (enclosing : List ℕ) (heads : List Head) (e : SchemaError) → length heads < MOST_NODES → members ds enclosing (heads ++ UnionHead ∷ []) ≡ Err e → walk (array ds) enclosing heads ≡ Err e
unfolding walk union_of
union-up ds enclosing heads e room bad = rw (lt-ltb (length heads) MOST_NODES room, bad) refl

list-up : (ds : Items) (enclosing : List ℕ) (heads : List Head) (e : SchemaError) → fields_after ds [] enclosing heads ≡ Err e → fields (array ds) enclosing heads ≡ Err e
unfolding walk
list-up ds enclosing heads e bad = bad

around-up : {A : Type 0} (make : A → Draft) (head : Head) (parts : Walk A) (enclosing : List ℕ) (heads : List Head) (e : SchemaError) → length heads < MOST_NODES → parts enclosing (heads ++ head ∷ []) ≡ Err e → if_room (around make head parts) enclosing heads ≡ Err e
unfolding around
around-up make head parts enclosing heads e room bad = rw (lt-ltb (length heads) MOST_NODES room, bad) refl

record-up : (name namespace aliases : Option Data) (parts : Walk (List DraftField)) (enclosing : List ℕ) (heads : List Head) (names : Names) (e : SchemaError) → length heads < MOST_NODES
    → new_names name namespace aliases enclosing heads ≡ Ok names → parts (namespace_of names.full) (heads ++ Named names.full ∷ []) ≡ Err e → if_room (record_of name namespace aliases (Some parts)) enclosing heads ≡ Err e
unfolding record_of around
record-up name namespace aliases parts enclosing heads names e room named bad = rw (lt-ltb (length heads) MOST_NODES room, named, bad) refl

found-object : (d c : Data) (k : List ℕ) → get k d ≡ Some c → true ≡ is_some (as_object d)
found-object (object ms) c k found = refl
found-object d c k found = absurd (let none : ⊥ = cc in none)

type-up : (name aliases default : Option Data) (type : Walk ℕ) (before : List (List ℕ)) (s : List ℕ) (others : List (List ℕ)) (enclosing : List ℕ) (heads : List Head) (e : SchemaError) → length before < MOST_FIELDS
    → field_name name before ≡ Ok s → field_aliases aliases ≡ Ok others → type enclosing heads ≡ Err e → if_few before (field_of name aliases (Some type) default before) enclosing heads ≡ Err e
unfolding field_of
type-up name aliases default type before s others enclosing heads e few named aliased bad = rw (lt-ltb (length before) MOST_FIELDS few, named, aliased, bad) refl

field-up : (d c : Data) (before : List (List ℕ)) (s : List ℕ) (others : List (List ℕ)) (enclosing : List ℕ) (heads : List Head) (e : SchemaError) → length before < MOST_FIELDS
    → field_name (get (codes "name") d) before ≡ Ok s → field_aliases (get (codes "aliases") d) ≡ Ok others → get (codes "type") d ≡ Some c → walk c enclosing heads ≡ Err e → field d before enclosing heads ≡ Err e
unfolding field_walk
field-up d c before s others enclosing heads e few named aliased found bad =
    ap (λ (w : Walk DraftField). w enclosing heads) (field-object d before (found-object d c (codes "type") found))
    ∙ ap (λ (o : Option Data). if_few before (field_of (get (codes "name") d) (get (codes "aliases") d) (option_map walk o) (get (codes "default") d) before) enclosing heads) found
    ∙ type-up (get (codes "name") d) (get (codes "aliases") d) (get (codes "default") d) (walk c) before s others enclosing heads e few named aliased bad

-- a part's fault is the value's
pub fails-up : (v w : Visit) (s : Step) (e : SchemaError) → ComesTo v s w → Fails e w → Fails e v
fails-up v w s e (to_member {ds = ds} {enclosing = enclosing} {heads = heads} {more = more} {i = i} {d = d} room at) bad = union-up ds enclosing heads e room (member-fails enclosing ds (heads ++ UnionHead ∷ []) i d more e at bad)
fails-up v w s e (to_items {d = d} {c = c} {enclosing = enclosing} {heads = heads} form room found) bad =
    ap (λ (x : Walk ℕ). x enclosing heads) (walk-of_form forms.Array d form)
    ∙ ap (λ (o : Option Data). if_room (around (λ n. Whole (ArrayNode n)) ArrayHead (or_unknown (option_map walk o))) enclosing heads) found
    ∙ around-up (λ n. Whole (ArrayNode n)) ArrayHead (walk c) enclosing heads e room bad
fails-up v w s e (to_values {d = d} {c = c} {enclosing = enclosing} {heads = heads} form room found) bad =
    ap (λ (x : Walk ℕ). x enclosing heads) (walk-of_form forms.Map d form)
    ∙ ap (λ (o : Option Data). if_room (around (λ n. Whole (MapNode n)) MapHead (or_unknown (option_map walk o))) enclosing heads) found
    ∙ around-up (λ n. Whole (MapNode n)) MapHead (walk c) enclosing heads e room bad
fails-up v w s e (to_wrapped {d = d} {c = c} {enclosing = enclosing} {heads = heads} form found) bad =
    ap (λ (x : Walk ℕ). x enclosing heads) (walk-of_form forms.Other d form)
    ∙ ap (λ (o : Option Data). or_unknown (option_map walk o) enclosing heads) found
    ∙ bad
fails-up v w s e (to_fields {d = d} {c = c} {enclosing = enclosing} {heads = heads} {names = names} form room named found) bad =
    ap (λ (x : Walk ℕ). x enclosing heads) (walk-of_form forms.Record d form)
    ∙ ap (λ (o : Option Data). if_room (record_of (get (codes "name") d) (get (codes "namespace") d) (get (codes "aliases") d) (option_map fields o)) enclosing heads) found
    ∙ record-up (get (codes "name") d) (get (codes "namespace") d) (get (codes "aliases") d) (fields c) enclosing heads names e room named bad
fails-up v w s e (to_field {ds = ds} {enclosing = enclosing} {heads = heads} {i = i} {w = u} at) bad = list-up ds enclosing heads e (field-fails enclosing ds [] heads i u e at bad)
fails-up v w s e (to_type {d = d} {c = c} {before = before} {enclosing = enclosing} {heads = heads} {name = name} {aliases = aliases} few named aliased found) bad = field-up d c before name aliases enclosing heads e few named aliased found bad

pub place-fails : (e : SchemaError) (root : Visit) (path : Path) → IsFault e root path → Fails e root
place-fails e root path (here fails sound) = fails
place-fails e root path (within {v = v} {w = w} {s = s} {q = q} comes h) = fails-up v w s e comes (place-fails e w q h)
