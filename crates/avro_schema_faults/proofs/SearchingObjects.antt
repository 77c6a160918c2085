-- What a search for a node comes to in an object, by its form, and in a field.
use Rattle.std.proofs.Common.{◌≡◌, ◌<◌, ◌+◌, ℕ, suc, List, [], ◌∷◌, ◌++◌, length, Bool, true, false, is_some, Option, Some, None, option_map, Ok, arith, refl, sym, ap, subst, ◌∙◌, codes, nat_lt, slice_get}
use Rattle.std.proofs.lemmas.Bool.{ltb-true}
use Rattle.serde_json.specs.Data.{Data, array, Items}
use Rattle.serde_json.specs.Find.{as_array, as_object, get}
use Rattle.spec_avro.specs.FullNames.{namespace_of}
use Rattle.spec_avro.specs.Node.{ArrayNode, EnumNode, FixedNode, MapNode, Names, Node}
use Rattle.spec_avro.specs.declared.limits.TheConstants.{MOST_FIELDS, MOST_NODES}
use Rattle.spec_schema.specs.Draft.{Draft, DraftField, RecordDraft, Whole}
use Rattle.spec_schema.specs.Head.{ArrayHead, Head, MapHead, Named}
use Rattle.spec_schema.specs.Aliases.{field_aliases, new_names}
use Rattle.spec_schema.specs.Attributes.{default_symbol, size_of, symbols_of}
use Rattle.spec_schema.specs.Names.{field_name}
use Rattle.spec_schema.specs.declared.schema_error.SchemaError.TheVariants.{TooLarge}
use Rattle.spec_schema.specs.declared.word.Form.{Form}
use Rattle.spec_schema.specs.declared.word.Form.TheVariants as forms
use Rattle.avro_schema_paths.specs.Places.{Path}
use Rattle.avro_schema_paths.specs.declared.step.Step.{Step}
use Rattle.avro_schema_paths.specs.declared.step.Step.TheVariants as steps
use Rattle.avro_schema.specs.Contract.{field_walk, object_as}
use Rattle.spec_schema.specs.Walk.{Walk, around, enum_of, field_of, fields, fixed_of, if_few, if_room, or_unknown, record_of, walk}
use Rattle.avro_schema.proofs.Members.{field-object, field-other, fields-none}
use Rattle.avro_schema_faults.specs.Faults.{ComesTo, IsOfForm, field_after, listing, schema, to_field, to_fields, to_items, to_type, to_values, to_wrapped}
use Rattle.avro_schema_faults.specs.Searching.{Adds, Behind, IsDeclaredAt, IsInField, SoughtIn, SoughtInField, SoughtInFields, SoughtInList}
use Rattle.avro_schema_faults.proofs.Searching.{AddsOne, Never, around-ok, bind-ok, cond-ok, moved, new_of, no-record, one-more, own, room-ok, within}
use Rattle.avro_schema_faults.proofs.Sound.{walk-of_form}

as-form : (f : Form) (d : Data) → IsOfForm f d → (enclosing : List ℕ) (heads : List Head) (p : ℕ × List Draft) → walk d enclosing heads ≡ Ok p → object_as f d enclosing heads ≡ Ok p
as-form f d form enclosing heads p h = sym (ap (λ (w : Walk ℕ). w enclosing heads) (walk-of_form f d form)) ∙ h

-- ---- enums and fixed

enum-ok : (name namespace aliases symbols default : Option Data) (enclosing : List ℕ) (heads : List Head) (n : ℕ) (new : List Draft) → if_room (enum_of name namespace aliases symbols default) enclosing heads ≡ Ok (n, new) → (node : Node) × (Whole node ∷ [] ≡ new)
unfolding enum_of
enum-ok name namespace aliases symbols default enclosing heads n new h =
    let r = room-ok (enum_of name namespace aliases symbols default) enclosing heads (n, new) h in
    let a = bind-ok (new_names name namespace aliases enclosing heads) _ (n, new) r.1 in
    let b = bind-ok (symbols_of symbols) _ (n, new) a.2 in
    let c = bind-ok (default_symbol b.0 default) _ (n, new) b.2 in
    (EnumNode a.0 b.0 c.0, ap new_of c.2)

pub enum-adds : (d : Data) → IsOfForm forms.Enum d → AddsOne d
enum-adds d form enclosing heads new (n, h) = enum-ok _ _ _ _ _ enclosing heads n new (as-form forms.Enum d form enclosing heads (n, new) h)

fixed-ok : (name namespace aliases size : Option Data) (enclosing : List ℕ) (heads : List Head) (n : ℕ) (new : List Draft) → if_room (fixed_of name namespace aliases size) enclosing heads ≡ Ok (n, new) → (node : Node) × (Whole node ∷ [] ≡ new)
unfolding fixed_of
fixed-ok name namespace aliases size enclosing heads n new h =
    let r = room-ok (fixed_of name namespace aliases size) enclosing heads (n, new) h in
    let a = bind-ok (new_names name namespace aliases enclosing heads) _ (n, new) r.1 in
    let b = bind-ok (size_of size) _ (n, new) a.2 in
    (FixedNode a.0 b.0, ap new_of b.2)

pub fixed-adds : (d : Data) → IsOfForm forms.Fixed d → AddsOne d
fixed-adds d form enclosing heads new (n, h) = fixed-ok _ _ _ _ enclosing heads n new (as-form forms.Fixed d form enclosing heads (n, new) h)

pub error-never : (d : Data) → IsOfForm forms.Error d → Never d
error-never d form enclosing heads new (n, h) = let e = as-form forms.Error d form enclosing heads (n, new) h in let no : ⊥ = cc in no

-- ---- arrays and maps

record Holds (make : ℕ → Draft) (head : Head) (o : Option Data) (enclosing : List ℕ) (heads : List Head) (new : List Draft) : Type 0 where
  room : length heads < MOST_NODES
  c : Data
  found : o ≡ Some c
  m : ℕ
  back : List Draft
  part : walk c enclosing (heads ++ head ∷ []) ≡ Ok (m, back)
  is : make m ∷ back ≡ new

unknown-ok : (o : Option Data) (enclosing : List ℕ) (heads : List Head) (p : ℕ × List Draft) → or_unknown (option_map walk o) enclosing heads ≡ Ok p → (c : Data) × (o ≡ Some c) × (walk c enclosing heads ≡ Ok p)
unknown-ok None enclosing heads p h = absurd (let no : ⊥ = cc in no)
unknown-ok (Some c) enclosing heads p h = (c, refl, h)

holds-ok : (make : ℕ → Draft) (head : Head) (o : Option Data) (enclosing : List ℕ) (heads : List Head) (n : ℕ) (new : List Draft) → if_room (around make head (or_unknown (option_map walk o))) enclosing heads ≡ Ok (n, new) → Holds make head o enclosing heads new
holds-ok make head o enclosing heads n new h =
    let r = room-ok (around make head (or_unknown (option_map walk o))) enclosing heads (n, new) h in
    let a = around-ok make head (or_unknown (option_map walk o)) enclosing heads n new r.1 in
    let u = unknown-ok o enclosing (heads ++ head ∷ []) a.0 a.1 in
    record { room = r.0; c = u.0; found = u.1; m = a.0.0; back = a.0.1; part = u.2; is = a.2 }

module _ (make : ℕ → Node) (head : Head) (s : Step) (k : List ℕ) (d : Data) (holds : (enclosing : List ℕ) (heads : List Head) (new : List Draft) → Adds (schema d enclosing heads) new → Holds (λ n. Whole (make n)) head (get k d) enclosing heads new)
    (goes : (c : Data) (enclosing : List ℕ) (heads : List Head) → length heads < MOST_NODES → get k d ≡ Some c → ComesTo (schema d enclosing heads) s (schema c enclosing (heads ++ head ∷ []))) where
  holder-first : SoughtIn d 0 None []
  holder-first enclosing heads new a =
      let u = holds enclosing heads new a in
      subst (λ (ks : List Draft). (0 < length ks) × IsDeclaredAt (schema d enclosing heads) (length heads + 0) (slice_get ks 0) []) u.is
      (omega arith, own d enclosing heads (length heads + 0) (Some (Whole (make u.m))) (omega arith) (λ e. no-record e))

  holder-none : None ≡ get k d → (left : ℕ) (r : Option ℕ) (p : Path) → SoughtIn d left r p
  holder-none none left (Some rest) p enclosing heads = λ new a. absurd (let u = holds enclosing heads new a in let f = u.found in let no : ⊥ = cc in no)
  holder-none none left None p enclosing heads = λ new a. absurd (let u = holds enclosing heads new a in let f = u.found in let no : ⊥ = cc in no)

  holder-later : (c : Data) → Some c ≡ get k d → (left : ℕ) (r : Option ℕ) (p : Path) → Behind s (SoughtIn c left) r p → SoughtIn d (suc left) r p
  holder-later c is left (Some rest) p b enclosing heads = λ new a.
      let u = holds enclosing heads new a in
      let f = u.found in
      let same : u.c ≡ c = cc in
      let l = b enclosing (heads ++ head ∷ []) u.back (u.m, ap (λ (x : Data). walk x enclosing (heads ++ head ∷ [])) (sym same) ∙ u.part) in
      subst (λ (ks : List Draft). length ks + rest ≡ suc left) u.is (omega (arith, l))
  holder-later c is left None p (q, e, b) enclosing heads = λ new a.
      let u = holds enclosing heads new a in
      let f = u.found in
      let same : u.c ≡ c = cc in
      let l = b enclosing (heads ++ head ∷ []) u.back (u.m, ap (λ (x : Data). walk x enclosing (heads ++ head ∷ [])) (sym same) ∙ u.part) in
      let there = within (schema d enclosing heads) (schema c enclosing (heads ++ head ∷ [])) s _ (slice_get u.back left) q (goes c enclosing heads u.room (sym is)) l.1 in
      let all = moved (schema d enclosing heads) _ (length heads + suc left) _ (slice_get u.back left) (s ∷ q) (one-more heads head left) refl there in
      subst (λ (ks : List Draft). (suc left < length ks) × IsDeclaredAt (schema d enclosing heads) (length heads + suc left) (slice_get ks (suc left)) p) u.is
      (omega (arith, l.0), subst (λ (x : Path). IsDeclaredAt (schema d enclosing heads) (length heads + suc left) (slice_get u.back left) x) (sym e) all)

module _ (d : Data) (form : IsOfForm forms.Array d) where
  array-holds : (enclosing : List ℕ) (heads : List Head) (new : List Draft) → Adds (schema d enclosing heads) new → Holds (λ n. Whole (ArrayNode n)) ArrayHead (get (codes "items") d) enclosing heads new
  array-holds enclosing heads new (n, h) = holds-ok (λ n. Whole (ArrayNode n)) ArrayHead (get (codes "items") d) enclosing heads n new (as-form forms.Array d form enclosing heads (n, new) h)

  pub array-first : SoughtIn d 0 None []
  array-first = holder-first ArrayNode ArrayHead steps.Items (codes "items") d array-holds (λ c enclosing heads room found. to_items form room found)

  pub array-none : None ≡ get (codes "items") d → (left : ℕ) (r : Option ℕ) (p : Path) → SoughtIn d left r p
  array-none = holder-none ArrayNode ArrayHead steps.Items (codes "items") d array-holds (λ c enclosing heads room found. to_items form room found)

  pub array-later : (c : Data) → Some c ≡ get (codes "items") d → (left : ℕ) (r : Option ℕ) (p : Path) → Behind steps.Items (SoughtIn c left) r p → SoughtIn d (suc left) r p
  array-later = holder-later ArrayNode ArrayHead steps.Items (codes "items") d array-holds (λ c enclosing heads room found. to_items form room found)

module _ (d : Data) (form : IsOfForm forms.Map d) where
  map-holds : (enclosing : List ℕ) (heads : List Head) (new : List Draft) → Adds (schema d enclosing heads) new → Holds (λ n. Whole (MapNode n)) MapHead (get (codes "values") d) enclosing heads new
  map-holds enclosing heads new (n, h) = holds-ok (λ n. Whole (MapNode n)) MapHead (get (codes "values") d) enclosing heads n new (as-form forms.Map d form enclosing heads (n, new) h)

  pub map-first : SoughtIn d 0 None []
  map-first = holder-first MapNode MapHead steps.Values (codes "values") d map-holds (λ c enclosing heads room found. to_values form room found)

  pub map-none : None ≡ get (codes "values") d → (left : ℕ) (r : Option ℕ) (p : Path) → SoughtIn d left r p
  map-none = holder-none MapNode MapHead steps.Values (codes "values") d map-holds (λ c enclosing heads room found. to_values form room found)

  pub map-later : (c : Data) → Some c ≡ get (codes "values") d → (left : ℕ) (r : Option ℕ) (p : Path) → Behind steps.Values (SoughtIn c left) r p → SoughtIn d (suc left) r p
  map-later = holder-later MapNode MapHead steps.Values (codes "values") d map-holds (λ c enclosing heads room found. to_values form room found)

-- ---- objects that wrap a schema

module _ (d : Data) (form : IsOfForm forms.Other d) where
  pub wrapper-none : None ≡ get (codes "type") d → (left : ℕ) (r : Option ℕ) (p : Path) → SoughtIn d left r p
  wrapper-none none left (Some rest) p enclosing heads = λ new a. let n = a.0 in let h = a.1 in absurd (let u = unknown-ok (get (codes "type") d) enclosing heads (n, new) (as-form forms.Other d form enclosing heads (n, new) h) in let f = u.1 in let no : ⊥ = cc in no)
  wrapper-none none left None p enclosing heads = λ new a. let n = a.0 in let h = a.1 in absurd (let u = unknown-ok (get (codes "type") d) enclosing heads (n, new) (as-form forms.Other d form enclosing heads (n, new) h) in let f = u.1 in let no : ⊥ = cc in no)

  wrapped-ok : (c : Data) → Some c ≡ get (codes "type") d → (enclosing : List ℕ) (heads : List Head) (new : List Draft) → Adds (schema d enclosing heads) new → Adds (schema c enclosing heads) new
  wrapped-ok c is enclosing heads new (n, h) =
      let u = unknown-ok (get (codes "type") d) enclosing heads (n, new) (as-form forms.Other d form enclosing heads (n, new) h) in
      let f = u.1 in
      let same : u.0 ≡ c = cc in
      (n, ap (λ (x : Data). walk x enclosing heads) (sym same) ∙ u.2)

  pub wrapper-part : (c : Data) → Some c ≡ get (codes "type") d → (left : ℕ) (r : Option ℕ) (p : Path) → Behind steps.Type (SoughtIn c left) r p → SoughtIn d left r p
  wrapper-part c is left (Some rest) p b enclosing heads = λ new a. b enclosing heads new (wrapped-ok c is enclosing heads new a)
  wrapper-part c is left None p (q, e, b) enclosing heads = λ new a.
      let l = b enclosing heads new (wrapped-ok c is enclosing heads new a) in
      let there = within (schema d enclosing heads) (schema c enclosing heads) steps.Type _ (slice_get new left) q (to_wrapped form (sym is)) l.1 in
      (l.0, subst (λ (x : Path). IsDeclaredAt (schema d enclosing heads) (length heads + left) (slice_get new left) x) (sym e) there)

-- ---- records

record OfRecord (d : Data) (o : Option Data) (enclosing : List ℕ) (heads : List Head) (new : List Draft) : Type 0 where
  room : length heads < MOST_NODES
  names : Names
  named : new_names (get (codes "name") d) (get (codes "namespace") d) (get (codes "aliases") d) enclosing heads ≡ Ok names
  c : Data
  found : o ≡ Some c
  fs : List DraftField
  back : List Draft
  parts : fields c (namespace_of names.full) (heads ++ Named names.full ∷ []) ≡ Ok (fs, back)
  is : RecordDraft names fs ∷ back ≡ new

listed-ok : (o : Option Data) (enclosing : List ℕ) (heads : List Head) (p : List DraftField × List Draft) → or_unknown (option_map fields o) enclosing heads ≡ Ok p → (c : Data) × (o ≡ Some c) × (fields c enclosing heads ≡ Ok p)
listed-ok None enclosing heads p h = absurd (let no : ⊥ = cc in no)
listed-ok (Some c) enclosing heads p h = (c, refl, h)

record-ok : (d : Data) (o : Option Data) (enclosing : List ℕ) (heads : List Head) (n : ℕ) (new : List Draft) → if_room (record_of (get (codes "name") d) (get (codes "namespace") d) (get (codes "aliases") d) (option_map fields o)) enclosing heads ≡ Ok (n, new) → OfRecord d o enclosing heads new
unfolding record_of
record-ok d o enclosing heads n new h =
    let r = room-ok (record_of (get (codes "name") d) (get (codes "namespace") d) (get (codes "aliases") d) (option_map fields o)) enclosing heads (n, new) h in
    let b = bind-ok (new_names (get (codes "name") d) (get (codes "namespace") d) (get (codes "aliases") d) enclosing heads) _ (n, new) r.1 in
    let a = around-ok (RecordDraft b.0) (Named b.0.full) (or_unknown (option_map fields o)) (namespace_of b.0.full) heads n new b.2 in
    let u = listed-ok o (namespace_of b.0.full) (heads ++ Named b.0.full ∷ []) a.0 a.1 in
    record { room = r.0; names = b.0; named = b.1; c = u.0; found = u.1; fs = a.0.0; back = a.0.1; parts = u.2; is = a.2 }

module _ (d : Data) (form : IsOfForm forms.Record d) where
  of_record : (enclosing : List ℕ) (heads : List Head) (new : List Draft) → Adds (schema d enclosing heads) new → OfRecord d (get (codes "fields") d) enclosing heads new
  of_record enclosing heads new (n, h) = record-ok d (get (codes "fields") d) enclosing heads n new (as-form forms.Record d form enclosing heads (n, new) h)

  pub record-first : SoughtIn d 0 None []
  record-first enclosing heads new a =
      let u = of_record enclosing heads new a in
      subst (λ (ks : List Draft). (0 < length ks) × IsDeclaredAt (schema d enclosing heads) (length heads + 0) (slice_get ks 0) []) u.is
      (omega arith, own d enclosing heads (length heads + 0) (Some (RecordDraft u.names u.fs)) (omega arith) (λ e. form))

  pub record-none : None ≡ get (codes "fields") d → (left : ℕ) (r : Option ℕ) (p : Path) → SoughtIn d left r p
  record-none none left (Some rest) p enclosing heads = λ new a. absurd (let u = of_record enclosing heads new a in let f = u.found in let no : ⊥ = cc in no)
  record-none none left None p enclosing heads = λ new a. absurd (let u = of_record enclosing heads new a in let f = u.found in let no : ⊥ = cc in no)

  pub record-later : (c : Data) → Some c ≡ get (codes "fields") d → (left : ℕ) (r : Option ℕ) (p : Path) → Behind steps.Fields (SoughtInList c left) r p → SoughtIn d (suc left) r p
  record-later c is left (Some rest) p b enclosing heads = λ new a.
      let u = of_record enclosing heads new a in
      let f = u.found in
      let same : u.c ≡ c = cc in
      let inner = namespace_of u.names.full in
      let more = heads ++ Named u.names.full ∷ [] in
      let l = b inner more u.back (u.fs, ap (λ (x : Data). fields x inner more) (sym same) ∙ u.parts) in
      subst (λ (ks : List Draft). length ks + rest ≡ suc left) u.is (omega (arith, l))
  record-later c is left None p (q, e, b) enclosing heads = λ new a.
      let u = of_record enclosing heads new a in
      let f = u.found in
      let same : u.c ≡ c = cc in
      let inner = namespace_of u.names.full in
      let more = heads ++ Named u.names.full ∷ [] in
      let l = b inner more u.back (u.fs, ap (λ (x : Data). fields x inner more) (sym same) ∙ u.parts) in
      let there = within (schema d enclosing heads) (listing c inner more) steps.Fields _ (slice_get u.back left) q (to_fields form u.room u.named (sym is)) l.1 in
      let all = moved (schema d enclosing heads) _ (length heads + suc left) _ (slice_get u.back left) (steps.Fields ∷ q) (one-more heads (Named u.names.full) left) refl there in
      subst (λ (ks : List Draft). (suc left < length ks) × IsDeclaredAt (schema d enclosing heads) (length heads + suc left) (slice_get ks (suc left)) p) u.is
      (omega (arith, l.0), subst (λ (x : Path). IsDeclaredAt (schema d enclosing heads) (length heads + suc left) (slice_get u.back left) x) (sym e) all)

-- ---- a list of fields

pub list-none : (d : Data) → None ≡ as_array d → (left : ℕ) (r : Option ℕ) (p : Path) → SoughtInList d left r p
list-none d none left (Some rest) p enclosing heads = λ new a. let fs = a.0 in let h = a.1 in absurd (let e = sym (ap (λ (w : Walk (List DraftField)). w enclosing heads) (fields-none d none)) ∙ h in let no : ⊥ = cc in no)
list-none d none left None p enclosing heads = λ new a. let fs = a.0 in let h = a.1 in absurd (let e = sym (ap (λ (w : Walk (List DraftField)). w enclosing heads) (fields-none d none)) ∙ h in let no : ⊥ = cc in no)

list-at : (ds : Items) (enclosing : List ℕ) (heads : List Head) (n : ℕ) (draft : Option Draft) (p : Path) → IsInField enclosing ds [] heads 0 n draft p → IsDeclaredAt (listing (array ds) enclosing heads) n draft p
list-at ds enclosing heads n draft p m =
    let step : steps.At m.j ∷ m.rest ≡ p = (let same : m.j ≡ 0 + m.j = omega arith in ap (λ (j : ℕ). steps.At j ∷ m.rest) same) ∙ sym m.path_is in
    subst (λ (q : Path). IsDeclaredAt (listing (array ds) enclosing heads) n draft q) step
    (within (listing (array ds) enclosing heads) m.field (steps.At m.j) n draft m.rest (to_field m.at) m.found)

pub list-array : (ds : Items) (left : ℕ) (r : Option ℕ) (p : Path) → SoughtInFields ds 0 left r p → SoughtInList (array ds) left r p
unfolding fields
list-array ds left (Some rest) p s enclosing heads = λ new a. let fs = a.0 in let h = a.1 in s [] enclosing heads fs new h
list-array ds left None p s enclosing heads = λ new a. let fs = a.0 in let h = a.1 in
    let l = s [] enclosing heads fs new h in
    (l.0, list-at ds enclosing heads (length heads + left) (slice_get new left) p l.1)

pub list-part : (d : Data) (ds : Items) → Some ds ≡ as_array d → (left : ℕ) (r : Option ℕ) (p : Path) → SoughtInFields ds 0 left r p → SoughtInList d left r p
list-part (array es) ds is left r p s = let same : ds ≡ es = cc in subst (λ (xs : Items). SoughtInList (array xs) left r p) same (list-array ds left r p s)
list-part d ds is left r p s = absurd (let no : ⊥ = cc in no)

-- ---- a field

record OfField (d : Data) (o : Option Data) (before : List (List ℕ)) (enclosing : List ℕ) (heads : List Head) (new : List Draft) : Type 0 where
  few : length before < MOST_FIELDS
  name : List ℕ
  named : field_name (get (codes "name") d) before ≡ Ok name
  aliases : List (List ℕ)
  aliased : field_aliases (get (codes "aliases") d) ≡ Ok aliases
  c : Data
  found : o ≡ Some c
  n : ℕ
  part : walk c enclosing heads ≡ Ok (n, new)

typed-ok : (d : Data) (o default : Option Data) (before : List (List ℕ)) (enclosing : List ℕ) (heads : List Head) (f : DraftField) (new : List Draft)
    → if_few before (field_of (get (codes "name") d) (get (codes "aliases") d) (option_map walk o) default before) enclosing heads ≡ Ok (f, new) → OfField d o before enclosing heads new
unfolding field_of
typed-ok d o default before enclosing heads f new h =
    let r = cond-ok (nat_lt (length before) MOST_FIELDS) _ TooLarge (f, new) h in
    let few : length before < MOST_FIELDS = ltb-true (length before) MOST_FIELDS r.0 in
    let a = bind-ok (field_name (get (codes "name") d) before) _ (f, new) r.1 in
    let b = bind-ok (field_aliases (get (codes "aliases") d)) _ (f, new) a.2 in
    let t = bind-ok (or_unknown (option_map walk o) enclosing heads) _ (f, new) b.2 in
    let u = unknown-ok o enclosing heads t.0 t.1 in
    let same : t.0.1 ≡ new = ap new_of t.2 in
    record { few = few; name = a.0; named = a.1; aliases = b.0; aliased = b.1; c = u.0; found = u.1; n = t.0.0; part = u.2 ∙ ap (λ (xs : List Draft). Ok (t.0.0, xs)) same }

of_field : (d : Data) (before : List (List ℕ)) (enclosing : List ℕ) (heads : List Head) (new : List Draft) → Adds (field_after before d enclosing heads) new → OfField d (get (codes "type") d) before enclosing heads new
unfolding field_walk
of_field d before enclosing heads new (f, h) = at (is_some (as_object d)) refl where
  at : (b : Bool) → b ≡ is_some (as_object d) → OfField d (get (codes "type") d) before enclosing heads new
  at true holds = typed-ok d (get (codes "type") d) (get (codes "default") d) before enclosing heads f new (sym (ap (λ (w : Walk DraftField). w enclosing heads) (field-object d before holds)) ∙ h)
  at false fails = absurd (let e = sym (ap (λ (w : Walk DraftField). w enclosing heads) (field-other d before fails)) ∙ h in let bad : ⊥ = cc in bad)

pub field-none : (d : Data) → None ≡ get (codes "type") d → (left : ℕ) (r : Option ℕ) (p : Path) → SoughtInField d left r p
field-none d none left (Some rest) p before enclosing heads = λ new a. absurd (let u = of_field d before enclosing heads new a in let f = u.found in let no : ⊥ = cc in no)
field-none d none left None p before enclosing heads = λ new a. absurd (let u = of_field d before enclosing heads new a in let f = u.found in let no : ⊥ = cc in no)

pub field-part : (d c : Data) → Some c ≡ get (codes "type") d → (left : ℕ) (r : Option ℕ) (p : Path) → Behind steps.Type (SoughtIn c left) r p → SoughtInField d left r p
field-part d c is left (Some rest) p b before enclosing heads = λ new a.
    let u = of_field d before enclosing heads new a in
    let f = u.found in
    let same : u.c ≡ c = cc in
    b enclosing heads new (u.n, ap (λ (x : Data). walk x enclosing heads) (sym same) ∙ u.part)
field-part d c is left None p (q, e, b) before enclosing heads = λ new a.
    let u = of_field d before enclosing heads new a in
    let f = u.found in
    let same : u.c ≡ c = cc in
    let l = b enclosing heads new (u.n, ap (λ (x : Data). walk x enclosing heads) (sym same) ∙ u.part) in
    let there = within (field_after before d enclosing heads) (schema c enclosing heads) steps.Type _ (slice_get new left) q (to_type u.few u.named u.aliased (sym is)) l.1 in
    (l.0, subst (λ (x : Path). IsDeclaredAt (field_after before d enclosing heads) (length heads + left) (slice_get new left) x) (sym e) there)
