-- What parts declare is what the whole declares.
use Rattle.std.proofs.Common.{rules, ◌≡◌, ◌⊎◌, inl, inr, ℕ, ◌+◌, Bool, List, [], ◌∷◌, ◌++◌, length, Option, Some, slice_get, sym, ◌∙◌, subst, codes, arith}
use Rattle.std.proofs.lemmas.Bool.{cases_lt}
use Rattle.serde_json.specs.Data.{Data, null, boolean, number, array, object, Items, Members}
use Rattle.serde_json.specs.Find.{get, get_item}
use Rattle.serde_json.specs.View.{view, items_view, number_view}
use Rattle.serde_json.specs.declared.number.Number.{Number}
use Rattle.serde_json.specs.declared.value.Value as json
use Rattle.serde_json.specs.declared.value.Value.{Value, the_lemmas}
use Rattle.spec_avro.specs.Node.{Node}
use Rattle.spec_schema.specs.Word.{form_of}
use Rattle.spec_schema.specs.declared.word.Form.{Form}
use Rattle.spec_schema.specs.declared.word.Form.TheVariants as forms
use Rattle.avro_schema_paths.specs.Parts.{InWrapper, InField, InFields, InForm, InHeld, InMember, InObject, field_steps, member_steps, type_in}
use Rattle.avro_schema_paths.specs.Places.{Path, Places, item_at, members_at, types_at, value_at}
use Rattle.avro_schema_paths.specs.Adds.{IsThis, Adds}
use Rattle.avro_schema_paths.specs.declared.entries.NodePath.{NodePath}
use Rattle.avro_schema_paths.specs.declared.step.Step.TheVariants as steps
use Rattle.avro_schema_paths.proofs.Inverting.{below_items, held_out, member_there, type_out, object_only, object_there, union_only, union_there}
use Rattle.avro_schema_paths.proofs.Adding.{adds_both, adds_none, adds_same}

module _ (nodes : List Node) where
  pub scalar_none : (v : json.Value) → (v ≡ json.Null) ⊎ ((x : Bool) × (v ≡ json.Bool x)) ⊎ ((x : Number) × (v ≡ json.Number x)) → (n : ℕ) (outer path : Path) (m : ℕ) (q : Path) → Places nodes (view v) n outer path m q → ⊥
  scalar_none v (inl e) n outer path m q p = let seen : view v ≡ null = sym (let h : null ≡ view v = rw e (search (rules, the_lemmas)) in h) in let h = subst (λ (y : Data). Places nodes y n outer path m q) seen p in elim h [ ]
  scalar_none v (inr (inl (x, e))) n outer path m q p = let seen : view v ≡ boolean x = sym (let h : boolean x ≡ view v = rw e (search (rules, the_lemmas)) in h) in let h = subst (λ (y : Data). Places nodes y n outer path m q) seen p in elim h [ ]
  scalar_none v (inr (inr (x, e))) n outer path m q p = let seen : view v ≡ number (number_view x) = sym (let h : number (number_view x) ≡ view v = rw e (search (rules, the_lemmas)) in h) in let h = subst (λ (y : Data). Places nodes y n outer path m q) seen p in elim h [ ]

  pub object_added : (d : Data) (ms : Members) (n : ℕ) (outer path : Path) (a b : List NodePath) → d ≡ object ms → Adds (InObject nodes d n outer path) a b → Adds (Places nodes d n outer path) a b
  object_added d ms n outer path a b e t = rw e (adds_same (InObject nodes (object ms) n outer path) (Places nodes (object ms) n outer path) a b (object_there nodes ms n outer path) (object_only nodes ms n outer path) (rw e at t))

  pub union_added : (vs : List Value) (n : ℕ) (outer path : Path) (a b c : List NodePath) → Adds (IsThis n outer) a b → Adds (InMember nodes (length vs) (items_view vs) (members_at (slice_get nodes n)) path) b c → Adds (Places nodes (array (items_view vs)) n outer path) a c
  union_added vs n outer path a b c t u = adds_both (IsThis n outer) (InMember nodes (length vs) (items_view vs) (members_at (slice_get nodes n)) path) (Places nodes (array (items_view vs)) n outer path) a b c (union_there nodes (items_view vs) n outer path) (member_there nodes (length vs) (items_view vs) n outer path) (union_only nodes vs n outer path) t u

  -- ---- parts, one after another

  pub no_members : (ds : Items) (ns : List ℕ) (path : Path) (a : List NodePath) → Adds (InMember nodes 0 ds ns path) a a
  no_members ds ns path a = adds_none (InMember nodes 0 ds ns path) a (λ m q p. (let lt = p.below in absurd (omega (arith, lt))))

  pub member_more : (ds : Items) (ns : List ℕ) (path : Path) (i : ℕ) (o : Option Data) (k : Option ℕ) (a b c : List NodePath) → get_item i ds ≡ o → slice_get ns i ≡ k
      → Adds (InMember nodes i ds ns path) a b → Adds (InHeld nodes o k (path ++ member_steps i)) b c → Adds (InMember nodes (i + 1) ds ns path) a c
  member_more ds ns path i o k a b c value node t u = adds_both (InMember nodes i ds ns path) (InHeld nodes o k (path ++ member_steps i)) (InMember nodes (i + 1) ds ns path) a b c
      (λ m q p. (let below = p.below in record { i = p.i; below = omega (arith, below); held = p.held }))
      (λ m q p. record { i = i; below = omega arith; held = subst (λ (x : Option Data). InHeld nodes x (slice_get ns i) (path ++ member_steps i) m q) (sym value) (subst (λ (x : Option ℕ). InHeld nodes o x (path ++ member_steps i) m q) (sym node) p) })
      (λ m q p. back m q p) t u where
        back : (m : ℕ) (q : Path) → InMember nodes (i + 1) ds ns path m q → InMember nodes i ds ns path m q ⊎ InHeld nodes o k (path ++ member_steps i) m q
        back m q p = elim (cases_lt p.i i) [
          | inl h ↦ inl (record { i = p.i; below = h; held = p.held })
          | inr h ↦ inr (
              let below = p.below in
              let same : p.i ≡ i = omega (arith, h, below) in
              subst (λ (x : Option ℕ). InHeld nodes o x (path ++ member_steps i) m q) node (subst (λ (x : Option Data). InHeld nodes x (slice_get ns i) (path ++ member_steps i) m q) value (subst (λ (j : ℕ). InHeld nodes (get_item j ds) (slice_get ns j) (path ++ member_steps j) m q) same p.held)))
        ]

  pub no_fields : (ds : Items) (ns : List ℕ) (path : Path) (a : List NodePath) → Adds (InField nodes 0 ds ns path) a a
  no_fields ds ns path a = adds_none (InField nodes 0 ds ns path) a (λ m q p. (let lt = p.below in absurd (omega (arith, lt))))

  pub field_more : (ds : Items) (ns : List ℕ) (path : Path) (i : ℕ) (o : Option Data) (k : Option ℕ) (a b c : List NodePath) → type_in (get_item i ds) ≡ o → slice_get ns i ≡ k
      → Adds (InField nodes i ds ns path) a b → Adds (InHeld nodes o k (path ++ field_steps i)) b c → Adds (InField nodes (i + 1) ds ns path) a c
  field_more ds ns path i o k a b c value node t u = adds_both (InField nodes i ds ns path) (InHeld nodes o k (path ++ field_steps i)) (InField nodes (i + 1) ds ns path) a b c
      (λ m q p. (let below = p.below in record { i = p.i; below = omega (arith, below); held = p.held }))
      (λ m q p. record { i = i; below = omega arith; held = subst (λ (x : Option Data). InHeld nodes x (slice_get ns i) (path ++ field_steps i) m q) (sym value) (subst (λ (x : Option ℕ). InHeld nodes o x (path ++ field_steps i) m q) (sym node) p) })
      (λ m q p. back m q p) t u where
        back : (m : ℕ) (q : Path) → InField nodes (i + 1) ds ns path m q → InField nodes i ds ns path m q ⊎ InHeld nodes o k (path ++ field_steps i) m q
        back m q p = elim (cases_lt p.i i) [
          | inl h ↦ inl (record { i = p.i; below = h; held = p.held })
          | inr h ↦ inr (
              let below = p.below in
              let same : p.i ≡ i = omega (arith, h, below) in
              subst (λ (x : Option ℕ). InHeld nodes o x (path ++ field_steps i) m q) node (subst (λ (x : Option Data). InHeld nodes x (slice_get ns i) (path ++ field_steps i) m q) value (subst (λ (j : ℕ). InHeld nodes (type_in (get_item j ds)) (slice_get ns j) (path ++ field_steps j) m q) same p.held)))
        ]

  pub fields_added : (o : Option Data) (vs : List Value) (ns : List ℕ) (path : Path) (a b : List NodePath) → o ≡ Some (array (items_view vs)) → Adds (InField nodes (length vs) (items_view vs) ns path) a b → Adds (InFields nodes o ns path) a b
  fields_added o vs ns path a b e t = adds_same (InField nodes (length vs) (items_view vs) ns path) (InFields nodes o ns path) a b (λ m q p. record { ds = items_view vs; is = e; count = length vs; field = p }) (λ m q p. back m q p) t where
    back : (m : ℕ) (q : Path) → InFields nodes o ns path m q → InField nodes (length vs) (items_view vs) ns path m q
    back m q p =
        let both : Some (array p.ds) ≡ Some (array (items_view vs)) = sym p.is ∙ e in
        let same : p.ds ≡ items_view vs = cc in
        let held : InHeld nodes (type_in (get_item p.field.i (items_view vs))) (slice_get ns p.field.i) (path ++ field_steps p.field.i) m q = subst (λ (ds : Items). InHeld nodes (type_in (get_item p.field.i ds)) (slice_get ns p.field.i) (path ++ field_steps p.field.i) m q) same p.field.held in
        let h = held_out nodes (type_in (get_item p.field.i (items_view vs))) (slice_get ns p.field.i) (path ++ field_steps p.field.i) m q held in
        let t = type_out nodes (get_item p.field.i (items_view vs)) h.d h.value in
        record { i = p.field.i; below = below_items vs p.field.i t.0 t.1; held = held }

  -- ---- as the code has them

  pub held_added : (d : Data) (k : ℕ) (path : Path) (a b : List NodePath) → Adds (Places nodes d k path path) a b → Adds (InHeld nodes (Some d) (Some k) path) a b
  held_added d k path a b t = adds_same (Places nodes d k path path) (InHeld nodes (Some d) (Some k) path) a b (λ m q p. p) (λ m q p. p) t

  pub wrapped_added : (d : Data) (k : ℕ) (outer path here : Path) (a b : List NodePath) → here ≡ path ++ steps.Type ∷ [] → Adds (Places nodes d k outer here) a b → Adds (InWrapper nodes (Some d) k outer path) a b
  wrapped_added d k outer path here a b e t = adds_same (Places nodes d k outer here) (InWrapper nodes (Some d) k outer path) a b (λ m q p. subst (λ (h : Path). Places nodes d k outer h m q) e p) (λ m q p. subst (λ (h : Path). Places nodes d k outer h m q) (sym e) p) t

  pub form_added : (f : Form) (d : Data) (n : ℕ) (outer path : Path) (a b : List NodePath) → form_of (get (codes "type") d) ≡ f → Adds (InForm nodes f d n outer path) a b → Adds (InObject nodes d n outer path) a b
  form_added f d n outer path a b e t = adds_same (InForm nodes f d n outer path) (InObject nodes d n outer path) a b (λ m q p. subst (λ (x : Form). InForm nodes x d n outer path m q) (sym e) p) (λ m q p. subst (λ (x : Form). InForm nodes x d n outer path m q) e p) t

  pub record_added : (d : Data) (o : Option Data) (n : ℕ) (outer path : Path) (a b : List NodePath) → o ≡ get (codes "fields") d → Adds (λ m q. IsThis n outer m q ⊎ InFields nodes o (types_at (slice_get nodes n)) path m q) a b → Adds (InForm nodes forms.Record d n outer path) a b
  record_added d o n outer path a b e t = adds_same (λ m q. IsThis n outer m q ⊎ InFields nodes o (types_at (slice_get nodes n)) path m q) (InForm nodes forms.Record d n outer path) a b
      (λ m q p. subst (λ (x : Option Data). IsThis n outer m q ⊎ InFields nodes x (types_at (slice_get nodes n)) path m q) e p) (λ m q p. subst (λ (x : Option Data). IsThis n outer m q ⊎ InFields nodes x (types_at (slice_get nodes n)) path m q) (sym e) p) t

  pub array_added : (d : Data) (o : Option Data) (n : ℕ) (outer path : Path) (a b : List NodePath) → o ≡ get (codes "items") d → Adds (λ m q. IsThis n outer m q ⊎ InHeld nodes o (item_at (slice_get nodes n)) (path ++ steps.Items ∷ []) m q) a b → Adds (InForm nodes forms.Array d n outer path) a b
  array_added d o n outer path a b e t = adds_same (λ m q. IsThis n outer m q ⊎ InHeld nodes o (item_at (slice_get nodes n)) (path ++ steps.Items ∷ []) m q) (InForm nodes forms.Array d n outer path) a b
      (λ m q p. subst (λ (x : Option Data). IsThis n outer m q ⊎ InHeld nodes x (item_at (slice_get nodes n)) (path ++ steps.Items ∷ []) m q) e p) (λ m q p. subst (λ (x : Option Data). IsThis n outer m q ⊎ InHeld nodes x (item_at (slice_get nodes n)) (path ++ steps.Items ∷ []) m q) (sym e) p) t

  pub map_added : (d : Data) (o : Option Data) (n : ℕ) (outer path : Path) (a b : List NodePath) → o ≡ get (codes "values") d → Adds (λ m q. IsThis n outer m q ⊎ InHeld nodes o (value_at (slice_get nodes n)) (path ++ steps.Values ∷ []) m q) a b → Adds (InForm nodes forms.Map d n outer path) a b
  map_added d o n outer path a b e t = adds_same (λ m q. IsThis n outer m q ⊎ InHeld nodes o (value_at (slice_get nodes n)) (path ++ steps.Values ∷ []) m q) (InForm nodes forms.Map d n outer path) a b
      (λ m q p. subst (λ (x : Option Data). IsThis n outer m q ⊎ InHeld nodes x (value_at (slice_get nodes n)) (path ++ steps.Values ∷ []) m q) e p) (λ m q p. subst (λ (x : Option Data). IsThis n outer m q ⊎ InHeld nodes x (value_at (slice_get nodes n)) (path ++ steps.Values ∷ []) m q) (sym e) p) t

  pub other_added : (d : Data) (o : Option Data) (n : ℕ) (outer path : Path) (a b : List NodePath) → o ≡ get (codes "type") d → Adds (InWrapper nodes o n outer path) a b → Adds (InForm nodes forms.Other d n outer path) a b
  other_added d o n outer path a b e t = adds_same (InWrapper nodes o n outer path) (InForm nodes forms.Other d n outer path) a b
      (λ m q p. subst (λ (x : Option Data). InWrapper nodes x n outer path m q) e p) (λ m q p. subst (λ (x : Option Data). InWrapper nodes x n outer path m q) (sym e) p) t
