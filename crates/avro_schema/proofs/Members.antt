-- What is found in a value: its walk, and how deep it is.
use Rattle.std.proofs.Common.{◌≡◌, ℕ, List, [], Option, Some, None, option_map, true, refl, codes, is_some, Bool, false, rules, ◌⊎◌, inl, inr}
use Rattle.std.specs.Ordering.{nat_cmp, match_ordering}
use Rattle.std.specs.Cmp.Lexicographic.{slice_cmp}
use Rattle.std.specs.declared.cmp.Ordering.{Ordering}
use Rattle.std.specs.declared.cmp.Ordering.TheVariants.{Less, Equal, Greater}
use Rattle.serde_json.specs.Data.{Data, null, boolean, number, array, object, Items, Members, no_members, member}
use Rattle.serde_json.specs.Find.{get_member, as_array, as_object}
use Rattle.serde_json.specs.View.{view, number_view}
use Rattle.serde_json.specs.declared.number.Number.{Number}
use Rattle.serde_json.specs.declared.value.Value as json
use Rattle.serde_json.specs.declared.value.Value.{Value, the_lemmas}
use Rattle.spec_schema.specs.declared.schema_error.SchemaError.TheVariants.{Unknown}
use Rattle.avro_schema.specs.Contract.{object_as, object_walk, field_walk}
use Rattle.spec_schema.specs.Walk.{declared_by, walk, walk_member, walk_fields, fields, fields_after, field, fault}
use Rattle.spec_schema.specs.Word.{form_of}
use Rattle.spec_schema.specs.declared.word.Form.{Form}
use Rattle.spec_schema.specs.declared.word.Form.TheVariants as forms

at_order : {A B : Type 0} (f : A → B) (o : Ordering) (a : A) (r : Option A) (s : Option B) → s ≡ option_map f r → match_ordering o s (Some (f a)) s ≡ option_map f (match_ordering o r (Some a) r)
at_order f Less a r s e = e
at_order f Equal a r s e = refl
at_order f Greater a r s e = e

-- what is walked at a key is what is found there
walk_member-get : (ms : Members) (k : List ℕ) → walk_member ms k ≡ option_map walk (get_member k ms)
unfolding walk
walk_member-get no_members k = refl
walk_member-get (member l d ms) k = at_order walk (slice_cmp nat_cmp k l) d (get_member k ms) (walk_member ms k) (walk_member-get ms k)

walk_fields-get : (ms : Members) (k : List ℕ) → walk_fields ms k ≡ option_map fields (get_member k ms)
unfolding walk
walk_fields-get no_members k = refl
walk_fields-get (member l d ms) k = at_order fields (slice_cmp nat_cmp k l) d (get_member k ms) (walk_fields ms k) (walk_fields-get ms k)

declared_as : (form : Form) (ms : Members) → declared_by form (λ k. get_member k ms) (walk_member ms) (walk_fields ms) ≡ object_as form (object ms)
declared_as forms.Record ms = rw (walk_fields-get ms (codes "fields")) refl
declared_as forms.Array ms = rw (walk_member-get ms (codes "items")) refl
declared_as forms.Map ms = rw (walk_member-get ms (codes "values")) refl
declared_as forms.Other ms = rw (walk_member-get ms (codes "type")) refl
declared_as d ms = refl

pub walk-object : (ms : Members) → walk (object ms) ≡ object_walk (object ms)
unfolding walk object_walk
walk-object ms = declared_as (form_of (get_member (codes "type") ms)) ms

pub field-object : (d : Data) (before : List (List ℕ)) → true ≡ is_some (as_object d) → field d before ≡ field_walk d before
unfolding walk field_walk
field-object (object ms) before e = rw (walk_member-get ms (codes "type")) refl
field-object d before e = absurd (let h : ⊥ = cc in h)

pub field-other : (d : Data) (before : List (List ℕ)) → false ≡ is_some (as_object d) → field d before ≡ fault Unknown
unfolding walk
field-other (object ms) before e = absurd (let h : ⊥ = cc in h)
field-other d before e = refl

pub fields-none : (d : Data) → None ≡ as_array d → fields d ≡ fault Unknown
unfolding walk
fields-none (array ds) e = absurd (let h : ⊥ = cc in h)
fields-none d e = refl

pub fields-some : (d : Data) (ds : Items) → Some ds ≡ as_array d → fields d ≡ fields_after ds []
unfolding walk
fields-some (array es) ds e = let same : es ≡ ds = cc in rw same refl
fields-some d ds e = absurd (let h : ⊥ = cc in h)

-- a value that is no schema
pub walk-scalar : (v : json.Value) → (v ≡ json.Null) ⊎ ((x : Bool) × (v ≡ json.Bool x)) ⊎ ((x : Number) × (v ≡ json.Number x)) → walk (view v) ≡ fault Unknown
unfolding walk
walk-scalar v (inl e) = let seen : null ≡ view v = rw e (search (rules, the_lemmas)) in rw (← seen) refl
walk-scalar v (inr (inl (x, e))) = let seen : boolean x ≡ view v = rw e (search (rules, the_lemmas)) in rw (← seen) refl
walk-scalar v (inr (inr (x, e))) = let seen : number (number_view x) ≡ view v = rw e (search (rules, the_lemmas)) in rw (← seen) refl
