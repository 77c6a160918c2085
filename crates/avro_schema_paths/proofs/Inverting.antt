-- What is declared in a value is declared in it itself or in one of its parts.
use Rattle.std.proofs.Common.{◌≡◌, ◌⊎◌, inl, inr, ℕ, zero, suc, ◌<◌, ◌≤◌, true, List, [], ◌∷◌, ◌++◌, length, Option, Some, None, slice_get, get_or, is_some, refl, sym, ap, ◌∙◌, subst, codes, map, arith}
use Rattle.serde_json.specs.Data.{Data, string, array, object, Items, Members}
use Rattle.serde_json.specs.Find.{as_array, get, get_item}
use Rattle.std.specs.List.{AllByRecursion}
use Rattle.std.specs.Prelude.{IfSome}
use Rattle.avro_types.specs.declared.kind.Field.{Field}
use Rattle.serde_json.specs.View.{view, items_view}
use Rattle.serde_json.specs.declared.value.Value.{Value}
use Rattle.spec_avro.specs.Node.{Node, FieldNode}
use Rattle.avro_types.specs.Node.{fields_of}
use Rattle.spec_schema.specs.Word.{leaf_of, word_of}
use Rattle.spec_schema.specs.declared.word.Form.{Form}
use Rattle.spec_schema.specs.declared.word.Form.TheVariants as forms
use Rattle.avro_schema_paths.specs.Parts.{type_in, member_steps, field_steps, InWrapper, InForm, InHeld, InMember, InObject}
use Rattle.avro_schema_paths.specs.Places.{Path, Places, item_at, value_at, a_type, a_union, a_word, declares, form_at, in_wrapper, in_array, in_map, in_record, in_union, members_at, types_at}
use Rattle.avro_schema_paths.specs.Adds.{IsThis}
use Rattle.avro_schema_paths.specs.declared.step.Step.TheVariants as steps

pub below_items : (vs : List Value) (i : ℕ) (d : Data) → get_item i (items_view vs) ≡ Some d → i < length vs
below_items [] i d e = absurd cc
below_items (v ∷ vs) zero d e = omega arith
below_items (v ∷ vs) (suc i) d e = let h = below_items vs i d e in omega (arith, h)

pub item_seen : (vs : List Value) (i : ℕ) (v : Value) → i < length vs → v ≡ get_or vs i v → get_item i (items_view vs) ≡ Some (view v)
item_seen [] i v lt e = absurd (omega arith)
item_seen (x ∷ vs) zero v lt e = ap (λ (y : Value). Some (view y)) (sym e)
item_seen (x ∷ vs) (suc i) v lt e = item_seen vs i v (omega arith) e

pub array_is : (d : Data) (ds : Items) → Some ds ≡ as_array d → Some d ≡ Some (array ds)
array_is (array es) ds e = let same : es ≡ ds = cc in ap (λ (x : Items). Some (array x)) same
array_is d ds e = absurd (let h : ⊥ = cc in h)

-- ---- nodes of parts are nodes

pub all_within : (n : ℕ) (ns : List ℕ) (i : ℕ) → AllByRecursion (λ k. k < n) ns → IfSome (slice_get ns i) (λ k. k < n)
all_within n [] i a = tt
all_within n (k ∷ ns) zero a = a.0
all_within n (k ∷ ns) (suc i) a = all_within n ns i a.1

pub types_within : (n : ℕ) (fs : List FieldNode) → AllByRecursion (λ f. f.node < n) fs → AllByRecursion (λ k. k < n) (map (λ f. f.node) fs)
types_within n [] a = tt
types_within n (f ∷ fs) a = (a.0, types_within n fs a.1)

pub type_some : (fs : List Field) (i : ℕ) (d : Field) → i < length fs → slice_get (map (λ f. f.node) (fields_of fs)) i ≡ Some (get_or fs i d).node
type_some [] i d lt = absurd (omega arith)
type_some (f ∷ fs) zero d lt = refl
type_some (f ∷ fs) (suc i) d lt = type_some fs i d (omega arith)

pub type_none : (fs : List Field) (i : ℕ) → length fs ≤ i → slice_get (map (λ f. f.node) (fields_of fs)) i ≡ None
type_none [] i le = refl
type_none (f ∷ fs) zero le = absurd (omega arith)
type_none (f ∷ fs) (suc i) le = type_none fs i (omega arith)

module _ (nodes : List Node) where
  -- ---- texts

  pub word_there : (s : List ℕ) (n : ℕ) (outer path : Path) → is_some (leaf_of (word_of s)) ≡ true → (m : ℕ) (q : Path) → IsThis n outer m q → Places nodes (string s) n outer path m q
  word_there s n outer path e m q t = by_leaf (leaf_of (word_of s)) refl e where
    by_leaf : (o : Option Node) → leaf_of (word_of s) ≡ o → is_some o ≡ true → Places nodes (string s) n outer path m q
    by_leaf None is h = absurd cc
    by_leaf (Some node) is h = subst (λ (x : ℕ). Places nodes (string s) n outer path x q) t.0 (subst (λ (x : Path). Places nodes (string s) n outer path n x) t.1 (a_word is))

  pub word_only : (s : List ℕ) (n : ℕ) (outer path : Path) (m : ℕ) (q : Path) → Places nodes (string s) n outer path m q → (is_some (leaf_of (word_of s)) ≡ true) × IsThis n outer m q
  word_only s n outer path m q (a_word is) = (ap is_some is, (refl, refl))

  -- ---- unions

  pub union_there : (ds : Items) (n : ℕ) (outer path : Path) (m : ℕ) (q : Path) → IsThis n outer m q → Places nodes (array ds) n outer path m q
  union_there ds n outer path m q t = subst (λ (x : ℕ). Places nodes (array ds) n outer path x q) t.0 (subst (λ (x : Path). Places nodes (array ds) n outer path n x) t.1 a_union)

  pub held_in : (o : Option Data) (k : Option ℕ) (path : Path) (m : ℕ) (q : Path) (d : Data) (j : ℕ) → o ≡ Some d → k ≡ Some j → Places nodes d j path path m q → InHeld nodes o k path m q
  held_in o k path m q d j e f p = subst (λ (x : Option Data). InHeld nodes x k path m q) (sym e) (subst (λ (x : Option ℕ). InHeld nodes (Some d) x path m q) (sym f) p)

  -- what is held is a value that is a node
  pub record IsHeld (o : Option Data) (k : Option ℕ) (path : Path) (m : ℕ) (q : Path) : Type 0 where
    pub d : Data
    pub j : ℕ
    pub value : o ≡ Some d
    pub node : k ≡ Some j
    pub places : Places nodes d j path path m q

  pub held_out : (o : Option Data) (k : Option ℕ) (path : Path) (m : ℕ) (q : Path) → InHeld nodes o k path m q → IsHeld o k path m q
  held_out None k path m q h = absurd h
  held_out (Some d) None path m q h = absurd h
  held_out (Some d) (Some j) path m q h = record { d = d; j = j; value = refl; node = refl; places = h }

  pub member_there : (count : ℕ) (ds : Items) (n : ℕ) (outer path : Path) (m : ℕ) (q : Path) → InMember nodes count ds (members_at (slice_get nodes n)) path m q → Places nodes (array ds) n outer path m q
  member_there count ds n outer path m q p =
      let h = held_out (get_item p.i ds) (slice_get (members_at (slice_get nodes n)) p.i) (path ++ member_steps p.i) m q p.held in
      in_union p.i h.node h.value h.places

  pub union_only : (vs : List Value) (n : ℕ) (outer path : Path) (m : ℕ) (q : Path) → Places nodes (array (items_view vs)) n outer path m q → IsThis n outer m q ⊎ InMember nodes (length vs) (items_view vs) (members_at (slice_get nodes n)) path m q
  union_only vs n outer path m q p = by_case (items_view vs) n outer path m q (λ i d e. below_items vs i d e) p where
    by_case : (ds : Items) (n : ℕ) (outer path : Path) (m : ℕ) (q : Path) → ((i : ℕ) (d : Data) → get_item i ds ≡ Some d → i < length vs) → Places nodes (array ds) n outer path m q → IsThis n outer m q ⊎ InMember nodes (length vs) ds (members_at (slice_get nodes n)) path m q
    by_case ds n outer path m q below a_union = inl (refl, refl)
    by_case ds n outer path m q below (in_union {d = d} {k = k} i node value places) = inr (record { i = i; below = below i d value; held = held_in (get_item i ds) (slice_get (members_at (slice_get nodes n)) i) (path ++ member_steps i) m q d k value node places })

  -- ---- objects

  this_in : (f : Form) (d : Data) (n : ℕ) (outer path : Path) (m : ℕ) (q : Path) → declares f ≡ true → IsThis n outer m q → InForm nodes f d n outer path m q
  this_in forms.Record d n outer path m q e t = inl t
  this_in forms.Enum d n outer path m q e t = t
  this_in forms.Fixed d n outer path m q e t = t
  this_in forms.Array d n outer path m q e t = inl t
  this_in forms.Map d n outer path m q e t = inl t
  this_in forms.Error d n outer path m q e t = absurd cc
  this_in forms.Other d n outer path m q e t = absurd cc

  type_is : (o : Option Data) (g d : Data) → o ≡ Some g → get (codes "type") g ≡ Some d → type_in o ≡ Some d
  type_is o g d e f = ap type_in e ∙ f

  pub object_only : (ms : Members) (n : ℕ) (outer path : Path) (m : ℕ) (q : Path) → Places nodes (object ms) n outer path m q → InObject nodes (object ms) n outer path m q
  object_only ms n outer path m q (a_type e) = this_in (form_at ms) (object ms) n outer path n outer e (refl, refl)
  object_only ms n outer path m q (in_array {d = d} {k = k} is node value p) = subst (λ (f : Form). InForm nodes f (object ms) n outer path m q) (sym is) (inr (held_in (get (codes "items") (object ms)) (item_at (slice_get nodes n)) (path ++ steps.Items ∷ []) m q d k value node p))
  object_only ms n outer path m q (in_map {d = d} {k = k} is node value p) = subst (λ (f : Form). InForm nodes f (object ms) n outer path m q) (sym is) (inr (held_in (get (codes "values") (object ms)) (value_at (slice_get nodes n)) (path ++ steps.Values ∷ []) m q d k value node p))
  object_only ms n outer path m q (in_record {ds = ds} {g = g} {d = d} {k = k} i is node list value type p) = subst (λ (f : Form). InForm nodes f (object ms) n outer path m q) (sym is) (inr (record { ds = ds; is = list; count = suc i; field = record { i = i; below = omega arith; held = held_in (type_in (get_item i ds)) (slice_get (types_at (slice_get nodes n)) i) (path ++ field_steps i) m q d k (type_is (get_item i ds) g d value type) node p } }))
  object_only ms n outer path m q (in_wrapper {d = d} is value p) = subst (λ (f : Form). InForm nodes f (object ms) n outer path m q) (sym is) (subst (λ (x : Option Data). InWrapper nodes x n outer path m q) (sym value) p)

  type_there : (ms : Members) (n : ℕ) (outer path : Path) (m : ℕ) (q : Path) → declares (form_at ms) ≡ true → IsThis n outer m q → Places nodes (object ms) n outer path m q
  type_there ms n outer path m q e t = subst (λ (x : ℕ). Places nodes (object ms) n outer path x q) t.0 (subst (λ (x : Path). Places nodes (object ms) n outer path n x) t.1 (a_type e))

  array_there : (ms : Members) (n : ℕ) (outer path : Path) (m : ℕ) (q : Path) → form_at ms ≡ forms.Array → (o : Option Data) (k : Option ℕ) → get (codes "items") (object ms) ≡ o → item_at (slice_get nodes n) ≡ k → InHeld nodes o k (path ++ steps.Items ∷ []) m q → Places nodes (object ms) n outer path m q
  array_there ms n outer path m q is None k e f h = absurd h
  array_there ms n outer path m q is (Some d) None e f h = absurd h
  array_there ms n outer path m q is (Some d) (Some k) e f h = in_array is f e h

  map_there : (ms : Members) (n : ℕ) (outer path : Path) (m : ℕ) (q : Path) → form_at ms ≡ forms.Map → (o : Option Data) (k : Option ℕ) → get (codes "values") (object ms) ≡ o → value_at (slice_get nodes n) ≡ k → InHeld nodes o k (path ++ steps.Values ∷ []) m q → Places nodes (object ms) n outer path m q
  map_there ms n outer path m q is None k e f h = absurd h
  map_there ms n outer path m q is (Some d) None e f h = absurd h
  map_there ms n outer path m q is (Some d) (Some k) e f h = in_map is f e h

  wrapped_there : (ms : Members) (n : ℕ) (outer path : Path) (m : ℕ) (q : Path) → form_at ms ≡ forms.Other → (o : Option Data) → get (codes "type") (object ms) ≡ o → InWrapper nodes o n outer path m q → Places nodes (object ms) n outer path m q
  wrapped_there ms n outer path m q is None e h = absurd h
  wrapped_there ms n outer path m q is (Some d) e h = in_wrapper is e h

  pub type_out : (o : Option Data) (d : Data) → type_in o ≡ Some d → (g : Data) × (o ≡ Some g) × (get (codes "type") g ≡ Some d)
  type_out None d e = absurd cc
  type_out (Some g) d e = (g, refl, e)

  pub object_there : (ms : Members) (n : ℕ) (outer path : Path) (m : ℕ) (q : Path) → InObject nodes (object ms) n outer path m q → Places nodes (object ms) n outer path m q
  object_there ms n outer path m q p = by_form (form_at ms) refl p where
    by_form : (f : Form) → form_at ms ≡ f → InForm nodes f (object ms) n outer path m q → Places nodes (object ms) n outer path m q
    by_form forms.Record is (inl t) = type_there ms n outer path m q (ap declares is) t
    by_form forms.Record is (inr l) =
        let h = held_out (type_in (get_item l.field.i l.ds)) (slice_get (types_at (slice_get nodes n)) l.field.i) (path ++ field_steps l.field.i) m q l.field.held in
        let t = type_out (get_item l.field.i l.ds) h.d h.value in
        in_record l.field.i is h.node l.is t.1 t.2 h.places
    by_form forms.Enum is t = type_there ms n outer path m q (ap declares is) t
    by_form forms.Fixed is t = type_there ms n outer path m q (ap declares is) t
    by_form forms.Array is (inl t) = type_there ms n outer path m q (ap declares is) t
    by_form forms.Array is (inr h) = array_there ms n outer path m q is (get (codes "items") (object ms)) (item_at (slice_get nodes n)) refl refl h
    by_form forms.Map is (inl t) = type_there ms n outer path m q (ap declares is) t
    by_form forms.Map is (inr h) = map_there ms n outer path m q is (get (codes "values") (object ms)) (value_at (slice_get nodes n)) refl refl h
    by_form forms.Error is t = absurd t
    by_form forms.Other is h = wrapped_there ms n outer path m q is (get (codes "type") (object ms)) refl h
