-- What each value leaves of the trail.
use Rattle.std.proofs.Common.{◌≡◌, ◌<◌, ◌≤◌, ℕ, suc, List, [], ◌∷◌, ◌++◌, length, set, Option, Some, None, option_map, Result, Ok, Err, arith, refl, sym, ap, subst, ◌∙◌, codes, false, is_some, Bool, ◌⊎◌, inl, inr, rules}
use Rattle.serde_json.specs.Data.{Data, array, null, boolean, number, Items, depth, items_depth}
use Rattle.serde_json.specs.Find.{as_array, as_object, get}
use Rattle.serde_json.specs.View.{view, number_view}
use Rattle.serde_json.specs.declared.number.Number.{Number}
use Rattle.serde_json.specs.declared.value.Value as json
use Rattle.serde_json.specs.declared.value.Value.{the_lemmas}
use Rattle.spec_avro.specs.FullNames.{namespace_of}
use Rattle.spec_avro.specs.Node.{ArrayNode, MapNode, Names, UnionNode, names_of}
use Rattle.spec_avro.specs.declared.limits.TheConstants.{MOST_NODES}
use Rattle.spec_schema.specs.Draft.{Draft, DraftField, RecordDraft, Whole}
use Rattle.avro_schema_names.specs.Draft.{field_names}
use Rattle.spec_schema.specs.Head.{ArrayHead, Head, MapHead, Named, UnionHead, heads_of}
use Rattle.avro_schema_names.proofs.Depths.{found-depth}
use Rattle.avro_schema_names.proofs.DraftLists.{heads_of-append, length-heads_of}
use Rattle.spec_schema.specs.Aliases.{new_names}
use Rattle.spec_schema.specs.declared.schema_error.SchemaError.{SchemaError}
use Rattle.spec_schema.specs.declared.schema_error.SchemaError.TheVariants.{Unknown}
use Rattle.spec_schema.specs.declared.word.Form.{Form}
use Rattle.spec_schema.specs.declared.word.Form.TheVariants as forms
use Rattle.avro_schema_paths.specs.Places.{Path}
use Rattle.avro_schema_paths.specs.declared.step.Step.{Step}
use Rattle.avro_schema_paths.specs.declared.step.Step.TheVariants as steps
use Rattle.avro_schema.specs.Contract.{Walks, object_as, run}
use Rattle.spec_schema.specs.Walk.{around, fault, fields, if_room, members, or_unknown, record_of, union_of, walk}
use Rattle.avro_schema.proofs.Records.{record-done, record-failed}
use Rattle.avro_schema.proofs.Runs.{closed, run-fault, run-if_room, unclosed}
use Rattle.avro_schema_faults.specs.Faults.{ComesTo, HasSoundParts, IsOfForm, Visit, listing, schema, to_field, to_fields, to_items, to_member, to_values}
use Rattle.avro_schema_faults.specs.Trail.{Ends, EndsInField, EndsInMember, Leaves, LeavesFrom}
use Rattle.avro_schema_faults.proofs.Bounds.{fails-after, gives-after}
use Rattle.avro_schema_faults.proofs.Ending.{ends-here, ends-within}
use Rattle.avro_schema_faults.proofs.Sound.{union-sound, walk-of_form}

-- ---- a value without parts, and a part

pub leaves-plain : {R : Type 0} (f : R → ℕ) (result : Result R SchemaError) (d : Data) (enclosing : List ℕ) (ks ls : List Draft) (before : Path) → Walks f result (walk d) enclosing ks ls → HasSoundParts (schema d enclosing (heads_of ks))
    → Leaves result (schema d enclosing (heads_of ks)) before before
leaves-plain f (Ok r) d enclosing ks ls before w sound = refl
leaves-plain f (Err e) d enclosing ks ls before w sound = λ known. ends-here e (schema d enclosing (heads_of ks)) before before refl (fails-after (walk d) enclosing ks e (w known)) sound

pub form-fails : (f : Form) (d : Data) (enclosing : List ℕ) (ks : List Draft) (e : SchemaError) → IsOfForm f d → run (object_as f d) enclosing ks ≡ Err e → walk d enclosing (heads_of ks) ≡ Err e
form-fails f d enclosing ks e is h = rw (walk-of_form f d is) (fails-after (object_as f d) enclosing ks e h)

pub leaves-formed : {R : Type 0} (g : R → ℕ) (result : Result R SchemaError) (f : Form) (d : Data) (enclosing : List ℕ) (ks ls : List Draft) (before : Path) → IsOfForm f d → Walks g result (object_as f d) enclosing ks ls → HasSoundParts (schema d enclosing (heads_of ks))
    → Leaves result (schema d enclosing (heads_of ks)) before before
leaves-formed g (Ok r) f d enclosing ks ls before is w sound = refl
leaves-formed g (Err e) f d enclosing ks ls before is w sound = λ known. ends-here e (schema d enclosing (heads_of ks)) before before refl (form-fails f d enclosing ks e is (w known)) sound

pub leaves-within : {R : Type 0} (result : Result R SchemaError) (v w : Visit) (s : Step) (before after : Path) → ComesTo v s w → LeavesFrom s result w before after → Leaves result v before after
leaves-within (Ok r) v w s before after comes h = h
leaves-within (Err e) v w s before after comes h = λ known. ends-within e v w s before after comes (h known)

-- a value that is neither a text nor an array nor an object
pub scalar-plain : (v : json.Value) → (v ≡ json.Null) ⊎ ((x : Bool) × (v ≡ json.Bool x)) ⊎ ((x : Number) × (v ≡ json.Number x)) → (false ≡ is_some (as_object (view v))) × (None ≡ as_array (view v))
scalar-plain v (inl e) = let seen : null ≡ view v = rw e (search (rules, the_lemmas)) in rw (← seen) (refl, refl)
scalar-plain v (inr (inl (x, e))) = let seen : boolean x ≡ view v = rw e (search (rules, the_lemmas)) in rw (← seen) (refl, refl)
scalar-plain v (inr (inr (x, e))) = let seen : number (number_view x) ≡ view v = rw e (search (rules, the_lemmas)) in rw (← seen) (refl, refl)

-- what is missing is not there
pub nothing-there : {A : Type 0} (o : Option A) (x : A) → None ≡ o → o ≡ Some x → ⊥
nothing-there o x none found = let no : ⊥ = cc in no

pub names-length : (fs : List DraftField) → length (field_names fs) ≡ length fs
names-length [] = refl
names-length (f ∷ fs) = ap suc (names-length fs)

-- what is found is less deep
pub inner-depth : (k : List ℕ) (d c : Data) → Some c ≡ get k d → suc (depth c) ≤ depth d
inner-depth k d c e = found-depth k (Some c) d e

pub listed-depth : (d : Data) (ds : Items) → Some ds ≡ as_array d → suc (items_depth ds) ≤ depth d
listed-depth (array es) ds e = let same : ds ≡ es = cc in rw same (omega arith)
listed-depth d ds e = absurd (let no : ⊥ = cc in no)

pub room-heads : (ks : List Draft) → length ks < MOST_NODES → length (heads_of ks) < MOST_NODES
room-heads ks lt = rw (length-heads_of ks) lt

pub full-heads : (ks : List Draft) → MOST_NODES ≤ length ks → MOST_NODES ≤ length (heads_of ks)
full-heads ks le = rw (length-heads_of ks) le

pub pushed-heads : (ks ls : List Draft) (k : Draft) → ls ≡ ks ++ k ∷ [] → heads_of ls ≡ heads_of ks ++ heads_of (k ∷ [])
pushed-heads ks ls k e = ap heads_of e ∙ heads_of-append ks (k ∷ [])

-- ---- unions

pub union-fails : (ds : Items) (enclosing : List ℕ) (ks : List Draft) (e : SchemaError) → run (if_room (union_of (members ds))) enclosing ks ≡ Err e → walk (array ds) enclosing (heads_of ks) ≡ Err e
unfolding walk
union-fails ds enclosing ks e h = fails-after (if_room (union_of (members ds))) enclosing ks e h

pub union-within : (ds : Items) (enclosing : List ℕ) (ks ls : List Draft) (e : SchemaError) (before after : Path) → length ks < MOST_NODES → ls ≡ ks ++ Whole (UnionNode []) ∷ [] → EndsInMember e ds enclosing (heads_of ls) before after
    → Ends e (schema (array ds) enclosing (heads_of ks)) before after
union-within ds enclosing ks ls e before after room there m =
    let hs : heads_of ls ≡ heads_of ks ++ UnionHead ∷ [] = pushed-heads ks ls (Whole (UnionNode [])) there in
    ends-within e (schema (array ds) enclosing (heads_of ks)) (schema m.member enclosing m.more) (steps.At m.i) before after (to_member (room-heads ks room) (rw hs at m.comes)) m.ends

pub union-walked : (ds : Items) (enclosing : List ℕ) (ks ls : List Draft) (ms : List ℕ) (all : List Draft) → ls ≡ ks ++ Whole (UnionNode []) ∷ [] → run (members ds) enclosing ls ≡ Ok (ms, all) → HasSoundParts (schema (array ds) enclosing (heads_of ks))
union-walked ds enclosing ks ls ms all there ran =
    let hs : heads_of ls ≡ heads_of ks ++ UnionHead ∷ [] = pushed-heads ks ls (Whole (UnionNode [])) there in
    let g = gives-after (members ds) enclosing ls ms all ran in
    union-sound ds enclosing (heads_of ks) (ms, g.new) (rw hs at g.gives)

-- ---- objects that wrap a schema

pub wrapped-none : (d : Data) (enclosing : List ℕ) (ks : List Draft) → None ≡ get (codes "type") d → run (object_as forms.Other d) enclosing ks ≡ Err Unknown
wrapped-none d enclosing ks none = ap (λ (o : Option Data). run (or_unknown (option_map walk o)) enclosing ks) (sym none) ∙ run-fault Unknown enclosing ks

-- ---- arrays

module _ (d : Data) (enclosing : List ℕ) (ks : List Draft) (room : length ks < MOST_NODES) where
  pub array-failed : (c : Data) (e : SchemaError) → Some c ≡ get (codes "items") d → run (walk c) enclosing (ks ++ Whole (ArrayNode 0) ∷ []) ≡ Err e → run (object_as forms.Array d) enclosing ks ≡ Err e
  array-failed c e is h =
      ap (λ (o : Option Data). run (if_room (around (λ n. Whole (ArrayNode n)) ArrayHead (or_unknown (option_map walk o)))) enclosing ks) (sym is)
      ∙ run-if_room (around (λ n. Whole (ArrayNode n)) ArrayHead (walk c)) enclosing ks room
      ∙ unclosed (λ n. Whole (ArrayNode n)) (Whole (ArrayNode 0)) (walk c) enclosing ks e h

  pub array-done : (c : Data) (n : ℕ) (ms : List Draft) → Some c ≡ get (codes "items") d → run (walk c) enclosing (ks ++ Whole (ArrayNode 0) ∷ []) ≡ Ok (n, ms) → run (object_as forms.Array d) enclosing ks ≡ Ok (length ks, set ms (length ks) (Whole (ArrayNode n)))
  array-done c n ms is h =
      ap (λ (o : Option Data). run (if_room (around (λ n. Whole (ArrayNode n)) ArrayHead (or_unknown (option_map walk o)))) enclosing ks) (sym is)
      ∙ run-if_room (around (λ n. Whole (ArrayNode n)) ArrayHead (walk c)) enclosing ks room
      ∙ closed (λ n. Whole (ArrayNode n)) (Whole (ArrayNode 0)) (walk c) enclosing ks n ms h

  pub array-none : None ≡ get (codes "items") d → run (object_as forms.Array d) enclosing ks ≡ Err Unknown
  array-none none =
      ap (λ (o : Option Data). run (if_room (around (λ n. Whole (ArrayNode n)) ArrayHead (or_unknown (option_map walk o)))) enclosing ks) (sym none)
      ∙ run-if_room (around (λ n. Whole (ArrayNode n)) ArrayHead (fault Unknown)) enclosing ks room
      ∙ unclosed (λ n. Whole (ArrayNode n)) (Whole (ArrayNode 0)) (fault Unknown) enclosing ks Unknown (run-fault Unknown enclosing (ks ++ Whole (ArrayNode 0) ∷ []))

  pub array-within : (ls : List Draft) (c : Data) (e : SchemaError) (before after : Path) → IsOfForm forms.Array d → Some c ≡ get (codes "items") d → ls ≡ ks ++ Whole (ArrayNode 0) ∷ []
      → Ends e (schema c enclosing (heads_of ls)) (before ++ steps.Items ∷ []) after → Ends e (schema d enclosing (heads_of ks)) before after
  array-within ls c e before after form is there h =
      let hs : heads_of ls ≡ heads_of ks ++ ArrayHead ∷ [] = pushed-heads ks ls (Whole (ArrayNode 0)) there in
      ends-within e (schema d enclosing (heads_of ks)) (schema c enclosing (heads_of ks ++ ArrayHead ∷ [])) steps.Items before after (to_items form (room-heads ks room) (sym is))
      (subst (λ (hs : List Head). Ends e (schema c enclosing hs) (before ++ steps.Items ∷ []) after) hs h)

-- ---- maps

module _ (d : Data) (enclosing : List ℕ) (ks : List Draft) (room : length ks < MOST_NODES) where
  pub map-failed : (c : Data) (e : SchemaError) → Some c ≡ get (codes "values") d → run (walk c) enclosing (ks ++ Whole (MapNode 0) ∷ []) ≡ Err e → run (object_as forms.Map d) enclosing ks ≡ Err e
  map-failed c e is h =
      ap (λ (o : Option Data). run (if_room (around (λ n. Whole (MapNode n)) MapHead (or_unknown (option_map walk o)))) enclosing ks) (sym is)
      ∙ run-if_room (around (λ n. Whole (MapNode n)) MapHead (walk c)) enclosing ks room
      ∙ unclosed (λ n. Whole (MapNode n)) (Whole (MapNode 0)) (walk c) enclosing ks e h

  pub map-done : (c : Data) (n : ℕ) (ms : List Draft) → Some c ≡ get (codes "values") d → run (walk c) enclosing (ks ++ Whole (MapNode 0) ∷ []) ≡ Ok (n, ms) → run (object_as forms.Map d) enclosing ks ≡ Ok (length ks, set ms (length ks) (Whole (MapNode n)))
  map-done c n ms is h =
      ap (λ (o : Option Data). run (if_room (around (λ n. Whole (MapNode n)) MapHead (or_unknown (option_map walk o)))) enclosing ks) (sym is)
      ∙ run-if_room (around (λ n. Whole (MapNode n)) MapHead (walk c)) enclosing ks room
      ∙ closed (λ n. Whole (MapNode n)) (Whole (MapNode 0)) (walk c) enclosing ks n ms h

  pub map-none : None ≡ get (codes "values") d → run (object_as forms.Map d) enclosing ks ≡ Err Unknown
  map-none none =
      ap (λ (o : Option Data). run (if_room (around (λ n. Whole (MapNode n)) MapHead (or_unknown (option_map walk o)))) enclosing ks) (sym none)
      ∙ run-if_room (around (λ n. Whole (MapNode n)) MapHead (fault Unknown)) enclosing ks room
      ∙ unclosed (λ n. Whole (MapNode n)) (Whole (MapNode 0)) (fault Unknown) enclosing ks Unknown (run-fault Unknown enclosing (ks ++ Whole (MapNode 0) ∷ []))

  pub map-within : (ls : List Draft) (c : Data) (e : SchemaError) (before after : Path) → IsOfForm forms.Map d → Some c ≡ get (codes "values") d → ls ≡ ks ++ Whole (MapNode 0) ∷ []
      → Ends e (schema c enclosing (heads_of ls)) (before ++ steps.Values ∷ []) after → Ends e (schema d enclosing (heads_of ks)) before after
  map-within ls c e before after form is there h =
      let hs : heads_of ls ≡ heads_of ks ++ MapHead ∷ [] = pushed-heads ks ls (Whole (MapNode 0)) there in
      ends-within e (schema d enclosing (heads_of ks)) (schema c enclosing (heads_of ks ++ MapHead ∷ [])) steps.Values before after (to_values form (room-heads ks room) (sym is))
      (subst (λ (hs : List Head). Ends e (schema c enclosing hs) (before ++ steps.Values ∷ []) after) hs h)

-- ---- records

module _ (d : Data) (enclosing : List ℕ) (ks : List Draft) (room : length ks < MOST_NODES) (s : Names)
    (named : new_names (get (codes "name") d) (get (codes "namespace") d) (get (codes "aliases") d) enclosing (heads_of ks) ≡ Ok s) where
  abbrev record_with : Option Data → Result (ℕ × List Draft) SchemaError
  record_with o = run (if_room (record_of (get (codes "name") d) (get (codes "namespace") d) (get (codes "aliases") d) (option_map fields o))) enclosing ks

  pub fields-failed : (c : Data) (e : SchemaError) → Some c ≡ get (codes "fields") d → run (fields c) (namespace_of s.full) (ks ++ RecordDraft (names_of s.full []) [] ∷ []) ≡ Err e → run (object_as forms.Record d) enclosing ks ≡ Err e
  fields-failed c e is h = ap record_with (sym is) ∙ record-failed _ _ _ (Some (fields c)) enclosing ks room s named e h

  pub fields-done : (c : Data) (fs : List DraftField) (ms : List Draft) → Some c ≡ get (codes "fields") d → run (fields c) (namespace_of s.full) (ks ++ RecordDraft (names_of s.full []) [] ∷ []) ≡ Ok (fs, ms)
      → run (object_as forms.Record d) enclosing ks ≡ Ok (length ks, set ms (length ks) (RecordDraft s fs))
  fields-done c fs ms is h = ap record_with (sym is) ∙ record-done _ _ _ (Some (fields c)) enclosing ks room s named fs ms h

  pub fields-missing : None ≡ get (codes "fields") d → run (object_as forms.Record d) enclosing ks ≡ Err Unknown
  fields-missing none = ap record_with (sym none) ∙ record-failed _ _ _ None enclosing ks room s named Unknown (run-fault Unknown (namespace_of s.full) (ks ++ RecordDraft (names_of s.full []) [] ∷ []))

  pub fields-within : (ls : List Draft) (c : Data) (e : SchemaError) (before after : Path) → IsOfForm forms.Record d → Some c ≡ get (codes "fields") d → ls ≡ ks ++ RecordDraft (names_of s.full []) [] ∷ []
      → Ends e (listing c (namespace_of s.full) (heads_of ls)) (before ++ steps.Fields ∷ []) after → Ends e (schema d enclosing (heads_of ks)) before after
  fields-within ls c e before after form is there h =
      let hs : heads_of ls ≡ heads_of ks ++ Named s.full ∷ [] = pushed-heads ks ls (RecordDraft (names_of s.full []) []) there in
      ends-within e (schema d enclosing (heads_of ks)) (listing c (namespace_of s.full) (heads_of ks ++ Named s.full ∷ [])) steps.Fields before after (to_fields form (room-heads ks room) named (sym is))
      (subst (λ (hs : List Head). Ends e (listing c (namespace_of s.full) hs) (before ++ steps.Fields ∷ []) after) hs h)

-- ---- fields

pub listed-within : (d : Data) (ds : Items) (enclosing : List ℕ) (heads : List Head) (e : SchemaError) (before after : Path) → Some ds ≡ as_array d → EndsInField e ds enclosing heads before after → Ends e (listing d enclosing heads) before after
listed-within (array es) ds enclosing heads e before after is m =
    let same : ds ≡ es = cc in
    subst (λ (xs : Items). Ends e (listing (array xs) enclosing heads) before after) same
    (ends-within e (listing (array ds) enclosing heads) m.field (steps.At m.i) before after (to_field m.comes) m.ends)
listed-within d ds enclosing heads e before after is m = absurd (let no : ⊥ = cc in no)
