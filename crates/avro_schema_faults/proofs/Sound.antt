-- Values of which no part that the walk comes to is at fault.
use Rattle.std.proofs.Common.{◌≡◌, ◌<◌, ◌≤◌, ℕ, true, false, is_some, List, [], ◌∷◌, ◌++◌, length, Some, None, Ok, Err, arith, refl, sym, ap, ◌∙◌, codes}
use Rattle.serde_json.specs.Data.{Data, array, object, string, Items}
use Rattle.serde_json.specs.Find.{as_array, as_object, get}
use Rattle.spec_avro.specs.Node.{Names}
use Rattle.spec_avro.specs.declared.limits.TheConstants.{MOST_FIELDS, MOST_NODES}
use Rattle.spec_schema.specs.Draft.{Draft}
use Rattle.spec_schema.specs.Head.{Head, UnionHead, heads_of}
use Rattle.spec_schema.specs.Aliases.{field_aliases, new_names}
use Rattle.spec_schema.specs.Names.{field_name}
use Rattle.spec_schema.specs.declared.schema_error.SchemaError.{SchemaError}
use Rattle.spec_schema.specs.declared.word.Form.{Form}
use Rattle.spec_schema.specs.declared.word.Form.TheVariants as forms
use Rattle.avro_schema_paths.specs.declared.step.Step.{Step}
use Rattle.avro_schema.specs.Contract.{object_as, object_walk}
use Rattle.spec_schema.specs.Walk.{members, walk}
use Rattle.avro_schema.proofs.Members.{walk-object}
use Rattle.avro_schema_faults.specs.Faults.{ComesTo, Fails, HasSoundParts, IsOfForm, MemberAt, Visit, field_after, first_member, listing, next_member, schema, to_field, to_fields, to_items, to_member, to_type, to_values, to_wrapped}
use Rattle.avro_schema_faults.proofs.Bounds.{followed-first, followed-rest}

-- an array is no object
pub no_array : (ds : Items) (f : Form) → IsOfForm f (array ds) → ⊥
no_array ds f is = let o : true ≡ false = is.object in let no : ⊥ = cc in no

no_other : (d : Data) (f : Form) → false ≡ is_some (as_object d) → IsOfForm f d → ⊥
no_other d f plain is = let o = is.object in let bad : ⊥ = cc in bad

-- the walk of an object by its form
pub walk-of_form : (f : Form) (d : Data) → IsOfForm f d → walk d ≡ object_as f d
unfolding object_walk
walk-of_form f (object ms) is = walk-object ms ∙ ap (λ g. object_as g (object ms)) is.form
walk-of_form f (array ds) is = absurd (no_other (array ds) f refl is)
walk-of_form f (string s) is = absurd (no_other (string s) f refl is)
walk-of_form f d is = absurd (no_other d f refl is)

-- ---- values that are no objects

pub plain-sound : (d : Data) (enclosing : List ℕ) (heads : List Head) → false ≡ is_some (as_object d) → None ≡ as_array d → HasSoundParts (schema d enclosing heads)
plain-sound d enclosing heads plain none s w e c = by_case d enclosing heads plain none s w c where
  by_case : (d : Data) (enclosing : List ℕ) (heads : List Head) → false ≡ is_some (as_object d) → None ≡ as_array d → (s : Step) (w : Visit) → ComesTo (schema d enclosing heads) s w → ¬ (Fails e w)
  by_case d enclosing heads plain none s w (to_member room at) = absurd (let bad : ⊥ = cc in bad)
  by_case d enclosing heads plain none s w (to_items is room found) = absurd (no_other d forms.Array plain is)
  by_case d enclosing heads plain none s w (to_values is room found) = absurd (no_other d forms.Map plain is)
  by_case d enclosing heads plain none s w (to_wrapped is found) = absurd (no_other d forms.Other plain is)
  by_case d enclosing heads plain none s w (to_fields is room named found) = absurd (no_other d forms.Record plain is)

-- a union for which there is no room
pub full-sound : (ds : Items) (enclosing : List ℕ) (heads : List Head) → MOST_NODES ≤ length heads → HasSoundParts (schema (array ds) enclosing heads)
full-sound ds enclosing heads full s w e (to_member room at) = absurd (omega (arith, full, room))
full-sound ds enclosing heads full s w e (to_items is room found) = absurd (no_array ds forms.Array is)
full-sound ds enclosing heads full s w e (to_values is room found) = absurd (no_array ds forms.Map is)
full-sound ds enclosing heads full s w e (to_wrapped is found) = absurd (no_array ds forms.Other is)
full-sound ds enclosing heads full s w e (to_fields is room named found) = absurd (no_array ds forms.Record is)

member-sound : (enclosing : List ℕ) (ds : Items) (heads : List Head) (i : ℕ) (d : Data) (more : List Head) (p : List ℕ × List Draft) (e : SchemaError) → MemberAt enclosing ds heads i d more → members ds enclosing heads ≡ Ok p → walk d enclosing more ≡ Err e → ⊥
unfolding walk
member-sound enclosing ds heads i d more p e first_member ok bad = let q = followed-first _ _ enclosing heads p ok in let is = q.1 in let no : ⊥ = cc in no
member-sound enclosing ds heads i d more p e (next_member {ds = rest} {n = n} {added = added} ran at) ok bad =
    let q = followed-rest _ _ enclosing heads p n added ran ok in
    let r = followed-first (members rest) _ enclosing (heads ++ heads_of added) q.0 q.1 in
    member-sound enclosing rest (heads ++ heads_of added) _ d more r.0 e at r.1 bad

-- a union of which all members were walked
pub union-sound : (ds : Items) (enclosing : List ℕ) (heads : List Head) (p : List ℕ × List Draft) → members ds enclosing (heads ++ UnionHead ∷ []) ≡ Ok p → HasSoundParts (schema (array ds) enclosing heads)
union-sound ds enclosing heads p ok s w e (to_member {more = more} {i = i} {d = d} room at) = λ bad. member-sound enclosing ds (heads ++ UnionHead ∷ []) i d more p e at ok bad
union-sound ds enclosing heads p ok s w e (to_items is room found) = absurd (no_array ds forms.Array is)
union-sound ds enclosing heads p ok s w e (to_values is room found) = absurd (no_array ds forms.Map is)
union-sound ds enclosing heads p ok s w e (to_wrapped is found) = absurd (no_array ds forms.Other is)
union-sound ds enclosing heads p ok s w e (to_fields is room named found) = absurd (no_array ds forms.Record is)

-- ---- objects, by their forms

pub two_forms : (d : Data) (f g : Form) → IsOfForm f d → IsOfForm g d → f ≡ g
two_forms d f g is other = sym is.form ∙ other.form

pub array-sound : (d : Data) (enclosing : List ℕ) (heads : List Head) → IsOfForm forms.Array d
    → (length heads < MOST_NODES → (c : Data) → get (codes "items") d ≡ Some c → ⊥)
    → HasSoundParts (schema d enclosing heads)
array-sound d enclosing heads is none s w e c = by_case d enclosing heads is none s w c where
  by_case : (d : Data) (enclosing : List ℕ) (heads : List Head) → IsOfForm forms.Array d
      → (length heads < MOST_NODES → (c : Data) → get (codes "items") d ≡ Some c → ⊥)
      → (s : Step) (w : Visit) → ComesTo (schema d enclosing heads) s w → ¬ (Fails e w)
  by_case d enclosing heads is none s w (to_member {ds = ds} room at) = absurd (no_array ds forms.Array is)
  by_case d enclosing heads is none s w (to_items {c = c} other room found) = absurd (none room c found)
  by_case d enclosing heads is none s w (to_values {c = c} other room found) = absurd (let same = two_forms d forms.Array forms.Map is other in let no : ⊥ = cc in no)
  by_case d enclosing heads is none s w (to_wrapped {c = c} other found) = absurd (let same = two_forms d forms.Array forms.Other is other in let no : ⊥ = cc in no)
  by_case d enclosing heads is none s w (to_fields {c = c} {names = names} other room named found) = absurd (let same = two_forms d forms.Array forms.Record is other in let no : ⊥ = cc in no)

pub map-sound : (d : Data) (enclosing : List ℕ) (heads : List Head) → IsOfForm forms.Map d
    → (length heads < MOST_NODES → (c : Data) → get (codes "values") d ≡ Some c → ⊥)
    → HasSoundParts (schema d enclosing heads)
map-sound d enclosing heads is none s w e c = by_case d enclosing heads is none s w c where
  by_case : (d : Data) (enclosing : List ℕ) (heads : List Head) → IsOfForm forms.Map d
      → (length heads < MOST_NODES → (c : Data) → get (codes "values") d ≡ Some c → ⊥)
      → (s : Step) (w : Visit) → ComesTo (schema d enclosing heads) s w → ¬ (Fails e w)
  by_case d enclosing heads is none s w (to_member {ds = ds} room at) = absurd (no_array ds forms.Map is)
  by_case d enclosing heads is none s w (to_items {c = c} other room found) = absurd (let same = two_forms d forms.Map forms.Array is other in let no : ⊥ = cc in no)
  by_case d enclosing heads is none s w (to_values {c = c} other room found) = absurd (none room c found)
  by_case d enclosing heads is none s w (to_wrapped {c = c} other found) = absurd (let same = two_forms d forms.Map forms.Other is other in let no : ⊥ = cc in no)
  by_case d enclosing heads is none s w (to_fields {c = c} {names = names} other room named found) = absurd (let same = two_forms d forms.Map forms.Record is other in let no : ⊥ = cc in no)

pub other-sound : (d : Data) (enclosing : List ℕ) (heads : List Head) → IsOfForm forms.Other d
    → ((c : Data) → get (codes "type") d ≡ Some c → ⊥)
    → HasSoundParts (schema d enclosing heads)
other-sound d enclosing heads is none s w e c = by_case d enclosing heads is none s w c where
  by_case : (d : Data) (enclosing : List ℕ) (heads : List Head) → IsOfForm forms.Other d
      → ((c : Data) → get (codes "type") d ≡ Some c → ⊥)
      → (s : Step) (w : Visit) → ComesTo (schema d enclosing heads) s w → ¬ (Fails e w)
  by_case d enclosing heads is none s w (to_member {ds = ds} room at) = absurd (no_array ds forms.Other is)
  by_case d enclosing heads is none s w (to_items {c = c} other room found) = absurd (let same = two_forms d forms.Other forms.Array is other in let no : ⊥ = cc in no)
  by_case d enclosing heads is none s w (to_values {c = c} other room found) = absurd (let same = two_forms d forms.Other forms.Map is other in let no : ⊥ = cc in no)
  by_case d enclosing heads is none s w (to_wrapped {c = c} other found) = absurd (none c found)
  by_case d enclosing heads is none s w (to_fields {c = c} {names = names} other room named found) = absurd (let same = two_forms d forms.Other forms.Record is other in let no : ⊥ = cc in no)

pub record-sound : (d : Data) (enclosing : List ℕ) (heads : List Head) → IsOfForm forms.Record d
    → (length heads < MOST_NODES → (names : Names) → new_names (get (codes "name") d) (get (codes "namespace") d) (get (codes "aliases") d) enclosing heads ≡ Ok names → (c : Data) → get (codes "fields") d ≡ Some c → ⊥)
    → HasSoundParts (schema d enclosing heads)
record-sound d enclosing heads is none s w e c = by_case d enclosing heads is none s w c where
  by_case : (d : Data) (enclosing : List ℕ) (heads : List Head) → IsOfForm forms.Record d
      → (length heads < MOST_NODES → (names : Names) → new_names (get (codes "name") d) (get (codes "namespace") d) (get (codes "aliases") d) enclosing heads ≡ Ok names → (c : Data) → get (codes "fields") d ≡ Some c → ⊥)
      → (s : Step) (w : Visit) → ComesTo (schema d enclosing heads) s w → ¬ (Fails e w)
  by_case d enclosing heads is none s w (to_member {ds = ds} room at) = absurd (no_array ds forms.Record is)
  by_case d enclosing heads is none s w (to_items {c = c} other room found) = absurd (let same = two_forms d forms.Record forms.Array is other in let no : ⊥ = cc in no)
  by_case d enclosing heads is none s w (to_values {c = c} other room found) = absurd (let same = two_forms d forms.Record forms.Map is other in let no : ⊥ = cc in no)
  by_case d enclosing heads is none s w (to_wrapped {c = c} other found) = absurd (let same = two_forms d forms.Record forms.Other is other in let no : ⊥ = cc in no)
  by_case d enclosing heads is none s w (to_fields {c = c} {names = names} other room named found) = absurd (none room names named c found)

pub enum-sound : (d : Data) (enclosing : List ℕ) (heads : List Head) → IsOfForm forms.Enum d → HasSoundParts (schema d enclosing heads)
enum-sound d enclosing heads is s w e c = by_case d enclosing heads is s w c where
  by_case : (d : Data) (enclosing : List ℕ) (heads : List Head) → IsOfForm forms.Enum d → (s : Step) (w : Visit) → ComesTo (schema d enclosing heads) s w → ¬ (Fails e w)
  by_case d enclosing heads is s w (to_member {ds = ds} room at) = absurd (no_array ds forms.Enum is)
  by_case d enclosing heads is s w (to_items {c = c} other room found) = absurd (let same = two_forms d forms.Enum forms.Array is other in let no : ⊥ = cc in no)
  by_case d enclosing heads is s w (to_values {c = c} other room found) = absurd (let same = two_forms d forms.Enum forms.Map is other in let no : ⊥ = cc in no)
  by_case d enclosing heads is s w (to_wrapped {c = c} other found) = absurd (let same = two_forms d forms.Enum forms.Other is other in let no : ⊥ = cc in no)
  by_case d enclosing heads is s w (to_fields {c = c} {names = names} other room named found) = absurd (let same = two_forms d forms.Enum forms.Record is other in let no : ⊥ = cc in no)

pub fixed-sound : (d : Data) (enclosing : List ℕ) (heads : List Head) → IsOfForm forms.Fixed d → HasSoundParts (schema d enclosing heads)
fixed-sound d enclosing heads is s w e c = by_case d enclosing heads is s w c where
  by_case : (d : Data) (enclosing : List ℕ) (heads : List Head) → IsOfForm forms.Fixed d → (s : Step) (w : Visit) → ComesTo (schema d enclosing heads) s w → ¬ (Fails e w)
  by_case d enclosing heads is s w (to_member {ds = ds} room at) = absurd (no_array ds forms.Fixed is)
  by_case d enclosing heads is s w (to_items {c = c} other room found) = absurd (let same = two_forms d forms.Fixed forms.Array is other in let no : ⊥ = cc in no)
  by_case d enclosing heads is s w (to_values {c = c} other room found) = absurd (let same = two_forms d forms.Fixed forms.Map is other in let no : ⊥ = cc in no)
  by_case d enclosing heads is s w (to_wrapped {c = c} other found) = absurd (let same = two_forms d forms.Fixed forms.Other is other in let no : ⊥ = cc in no)
  by_case d enclosing heads is s w (to_fields {c = c} {names = names} other room named found) = absurd (let same = two_forms d forms.Fixed forms.Record is other in let no : ⊥ = cc in no)

pub error-sound : (d : Data) (enclosing : List ℕ) (heads : List Head) → IsOfForm forms.Error d → HasSoundParts (schema d enclosing heads)
error-sound d enclosing heads is s w e c = by_case d enclosing heads is s w c where
  by_case : (d : Data) (enclosing : List ℕ) (heads : List Head) → IsOfForm forms.Error d → (s : Step) (w : Visit) → ComesTo (schema d enclosing heads) s w → ¬ (Fails e w)
  by_case d enclosing heads is s w (to_member {ds = ds} room at) = absurd (no_array ds forms.Error is)
  by_case d enclosing heads is s w (to_items {c = c} other room found) = absurd (let same = two_forms d forms.Error forms.Array is other in let no : ⊥ = cc in no)
  by_case d enclosing heads is s w (to_values {c = c} other room found) = absurd (let same = two_forms d forms.Error forms.Map is other in let no : ⊥ = cc in no)
  by_case d enclosing heads is s w (to_wrapped {c = c} other found) = absurd (let same = two_forms d forms.Error forms.Other is other in let no : ⊥ = cc in no)
  by_case d enclosing heads is s w (to_fields {c = c} {names = names} other room named found) = absurd (let same = two_forms d forms.Error forms.Record is other in let no : ⊥ = cc in no)

-- ---- fields

pub listing-sound : (d : Data) (enclosing : List ℕ) (heads : List Head) → None ≡ as_array d → HasSoundParts (listing d enclosing heads)
listing-sound d enclosing heads none s w e c = by_case d enclosing heads none s w c where
  by_case : (d : Data) (enclosing : List ℕ) (heads : List Head) → None ≡ as_array d → (s : Step) (w : Visit) → ComesTo (listing d enclosing heads) s w → ¬ (Fails e w)
  by_case d enclosing heads none s w (to_field at) = absurd (let no : ⊥ = cc in no)

pub field-sound : (before : List (List ℕ)) (d : Data) (enclosing : List ℕ) (heads : List Head)
    → (length before < MOST_FIELDS → (name : List ℕ) → field_name (get (codes "name") d) before ≡ Ok name → (aliases : List (List ℕ)) → field_aliases (get (codes "aliases") d) ≡ Ok aliases → (c : Data) → get (codes "type") d ≡ Some c → ⊥)
    → HasSoundParts (field_after before d enclosing heads)
field-sound before d enclosing heads none s w e (to_type {c = c} {name = name} {aliases = aliases} few named aliased found) = absurd (none few name named aliases aliased c found)

-- nothing is found in what is no object
pub nothing-in : (d : Data) (k : List ℕ) → false ≡ is_some (as_object d) → (c : Data) → get k d ≡ Some c → ⊥
nothing-in (object ms) k plain c found = let bad : ⊥ = cc in bad
nothing-in d k plain c found = let bad : ⊥ = cc in bad
