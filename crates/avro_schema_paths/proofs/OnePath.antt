-- Each node has one path: the nodes that a part declares have numbers of their own among all. By induction on what is
-- declared.
use Rattle.std.proofs.Common.{◌≡◌, ◌⊎◌, inl, inr, ℕ, zero, suc, ◌+◌, ◌<◌, ◌≤◌, true, false, List, [], ◌∷◌, ◌++◌, length, map, Option, Some, slice_get, is_some, refl, sym, ap, ◌∙◌, subst, codes, arith, append-nil, length-append}
use Rattle.serde_json.specs.Data.{Data, array, object, Items, Members}
use Rattle.serde_json.specs.Find.{get, get_item, get_member}
use Rattle.spec_avro.specs.Node.{Node, ArrayNode, MapNode, UnionNode, EnumNode, FixedNode}
use Rattle.spec_schema.specs.Word.{form_of, is_primitive, leaf_of, word_of}
use Rattle.spec_schema.specs.declared.word.Word.{Word}
use Rattle.spec_schema.specs.declared.word.Word.TheVariants as words
use Rattle.spec_schema.specs.declared.word.Form.{Form}
use Rattle.spec_schema.specs.declared.word.Form.TheVariants as forms
use Rattle.spec_schema.specs.Draft.{Draft, Whole, RecordDraft, DraftField}
use Rattle.spec_schema.specs.Declaring.{DeclareFields, DeclareMembers, Declares, a_field, a_fixed, a_map, a_member, a_primitive, a_record, a_reference, a_union, an_array, an_enum, another, no_more_fields, no_more_members}
use Rattle.avro_schema.proofs.WordCases.{no_primitive_is, other_is}
use Rattle.spec_schema.specs.DefaultData.{AreNodesOf}
use Rattle.avro_schema_paths.specs.Adds.{IsThis}
use Rattle.avro_schema_paths.specs.Laws.{EachNodeHasOnePath, OnlyNodesHavePaths}
use Rattle.avro_schema_paths.specs.Parts.{InFields, InForm, InHeld, InWrapper, field_steps, member_steps, type_in}
use Rattle.avro_schema_paths.specs.Places.{Path, Places, a_union as the_union, form_at, in_union, item_at, members_at, types_at, value_at}
use Rattle.avro_schema_paths.specs.declared.step.Step.TheVariants as steps
use Rattle.avro_schema_paths.proofs.HavePaths.{Spans, count_same, node_at, spans-after, spans-first, spans-rest, types_there}
use Rattle.avro_schema_paths.proofs.Inverting.{held_out, object_only, type_out, word_only}

-- ---- the numbers of added nodes

abbrev IsIn : List Draft → List Draft → ℕ → Type 0
IsIn before added m = (length before ≤ m) × (m < length before + length added)

first_in : (before : List Draft) (d : Draft) (added : List Draft) (m : ℕ) → length before ≡ m → IsIn before (d ∷ added) m
first_in before d added m e = (omega (arith, e), omega (arith, e))

rest_in : (before : List Draft) (d : Draft) (added : List Draft) (m : ℕ) → IsIn (before ++ d ∷ []) added m → IsIn before (d ∷ added) m
rest_in before d added m h = let one = length-append before (d ∷ []) in (omega (arith, one, h.0), omega (arith, one, h.1))

left_in : (before added more : List Draft) (m : ℕ) → IsIn before added m → IsIn before (added ++ more) m
left_in before added more m h = let both = length-append added more in (h.0, omega (arith, both, h.1))

right_in : (before added more : List Draft) (m : ℕ) → IsIn (before ++ added) more m → IsIn before (added ++ more) m
right_in before added more m h =
    let both = length-append added more in
    let front = length-append before added in
    (omega (arith, front, h.0), omega (arith, both, front, h.1))

first_not_rest : (before : List Draft) (d : Draft) (added : List Draft) (m : ℕ) → length before ≡ m → IsIn (before ++ d ∷ []) added m → ⊥
first_not_rest before d added m e h = let one = length-append before (d ∷ []) in omega (arith, one, e, h.0)

left_not_right : (before added more : List Draft) (m : ℕ) → IsIn before added m → IsIn (before ++ added) more m → ⊥
left_not_right before added more m h k = let front = length-append before added in omega (arith, front, h.1, k.0)

-- ---- a name declares nothing

no_leaf : (w : Word) → is_primitive w ≡ false → is_some (leaf_of w) ≡ true → ⊥
no_leaf words.Null e h = absurd cc
no_leaf words.Boolean e h = absurd cc
no_leaf words.Int e h = absurd cc
no_leaf words.Long e h = absurd cc
no_leaf words.Bytes e h = absurd cc
no_leaf words.Text e h = absurd cc
no_leaf w e h = absurd cc

module _ (nodes : List Node) where
  -- ---- what is declared in a value is declared by itself or in one of its parts

  record Member (ds : Items) (ns : List ℕ) (at : ℕ → Path) (m : ℕ) (q : Path) : Type 0 where
    pub i : ℕ
    pub d : Data
    pub k : ℕ
    pub value : get_item i ds ≡ Some d
    pub node : slice_get ns i ≡ Some k
    pub places : Places nodes d k (at i) (at i) m q

  record FieldType (ds : Items) (ns : List ℕ) (at : ℕ → Path) (m : ℕ) (q : Path) : Type 0 where
    pub i : ℕ
    pub g : Data
    pub d : Data
    pub k : ℕ
    pub value : get_item i ds ≡ Some g
    pub type : get (codes "type") g ≡ Some d
    pub node : slice_get ns i ≡ Some k
    pub places : Places nodes d k (at i) (at i) m q

  union_parts : (ds : Items) (n : ℕ) (outer path : Path) (m : ℕ) (q : Path) (ns : List ℕ) → members_at (slice_get nodes n) ≡ ns → Places nodes (array ds) n outer path m q
      → IsThis n outer m q ⊎ Member ds ns (λ i. path ++ member_steps i) m q
  union_parts ds n outer path m q ns e the_union = inl (refl, refl)
  union_parts ds n outer path m q ns e (in_union {d = d} {k = k} i node value places) =
      inr (record { i = i; d = d; k = k; value = value; node = ap (λ (x : List ℕ). slice_get x i) (sym e) ∙ node; places = places })

  in_form : (ms : Members) (f : Form) (n : ℕ) (outer path : Path) (m : ℕ) (q : Path) → form_at ms ≡ f → Places nodes (object ms) n outer path m q → InForm nodes f (object ms) n outer path m q
  in_form ms f n outer path m q e p = subst (λ (x : Form). InForm nodes x (object ms) n outer path m q) e (object_only nodes ms n outer path m q p)

  held_is : (o : Option Data) (j : Option ℕ) (path : Path) (m : ℕ) (q : Path) (d : Data) (k : ℕ) → o ≡ Some d → j ≡ Some k → InHeld nodes o j path m q → Places nodes d k path path m q
  held_is o j path m q d k e f h = subst (λ (x : Option ℕ). InHeld nodes (Some d) x path m q) f (subst (λ (x : Option Data). InHeld nodes x j path m q) e h)

  wrapped_is : (o : Option Data) (n : ℕ) (outer path : Path) (m : ℕ) (q : Path) (d : Data) → o ≡ Some d → InWrapper nodes o n outer path m q → Places nodes d n outer (path ++ steps.Type ∷ []) m q
  wrapped_is o n outer path m q d e h = subst (λ (x : Option Data). InWrapper nodes x n outer path m q) e h

  fields_are : (o : Option Data) (js : List ℕ) (path : Path) (m : ℕ) (q : Path) (ds : Items) (ns : List ℕ) → o ≡ Some (array ds) → js ≡ ns → InFields nodes o js path m q → FieldType ds ns (λ i. path ++ field_steps i) m q
  fields_are o js path m q ds ns e f h =
      let both : Some (array h.ds) ≡ Some (array ds) = sym h.is ∙ e in
      let same : h.ds ≡ ds = cc in
      let i = h.field.i in
      let held : InHeld nodes (type_in (get_item i ds)) (slice_get js i) (path ++ field_steps i) m q = subst (λ (x : Items). InHeld nodes (type_in (get_item i x)) (slice_get js i) (path ++ field_steps i) m q) same h.field.held in
      let out = held_out nodes (type_in (get_item i ds)) (slice_get js i) (path ++ field_steps i) m q held in
      let t = type_out nodes (get_item i ds) out.d out.value in
      record { i = i; g = t.0; d = out.d; k = out.j; value = t.1; type = t.2; node = ap (λ (x : List ℕ). slice_get x i) (sym f) ∙ out.node; places = out.places }

  type_same : (ms : Members) (x g d : Data) → get_member (codes "type") ms ≡ Some x → Some (object ms) ≡ Some g → get (codes "type") g ≡ Some d → Some x ≡ Some d
  type_same ms x g d at is type =
      let same : object ms ≡ g = cc in
      sym at ∙ ap (get (codes "type")) same ∙ type

  -- two paths of one node, both of the value itself or both in its parts
  of_parts : (before : List Draft) (d : Draft) (added : List Draft) (m : ℕ) (outer q r : Path) (P : Path → Type 0) → ((s : Path) → P s → IsIn (before ++ d ∷ []) added m) → (P q → P r → q ≡ r)
      → IsThis (length before) outer m q ⊎ P q → IsThis (length before) outer m r ⊎ P r → q ≡ r
  of_parts before d added m outer q r P within same (inl t) (inl u) = sym t.1 ∙ u.1
  of_parts before d added m outer q r P within same (inl t) (inr b) = absurd (first_not_rest before d added m t.0 (within r b))
  of_parts before d added m outer q r P within same (inr a) (inl u) = absurd (first_not_rest before d added m u.0 (within q a))
  of_parts before d added m outer q r P within same (inr a) (inr b) = same a b

  -- a value and a node by other names
  moved : (d e : Data) (k l : ℕ) (outer path : Path) (m : ℕ) (q : Path) → Some e ≡ Some d → Some l ≡ Some k → Places nodes d k outer path m q → Places nodes e l outer path m q
  moved d e k l outer path m q a b p =
      let same : d ≡ e = cc in
      let node : k ≡ l = cc in
      subst (λ (x : Data). Places nodes x l outer path m q) same (subst (λ (x : ℕ). Places nodes d x outer path m q) node p)

  module _ (all : List Draft) (are : AreNodesOf all all nodes) where
    mutual
      in_range : {d : Data} {enclosing : List ℕ} {before : List Draft} {n : ℕ} {added : List Draft} → Declares d enclosing before n added → (more : List Draft) → Spans before added more all
          → (outer path : Path) (m : ℕ) (q : Path) → Places nodes d n outer path m q → IsIn before added m
      in_range (a_primitive {s = s} {before = before} {node = node} p lt) more e outer path m q h =
          first_in before (Whole node) [] m (word_only nodes s (length before) outer path m q h).1.0
      in_range (a_reference {s = s} {n = n} none at) more e outer path m q h =
          absurd (no_leaf (word_of s) (no_primitive_is s none) (word_only nodes s n outer path m q h).0)
      in_range (a_union {ds = ds} {before = before} {added = added} {ns = ns} lt parts apart) more e outer path m q h =
          let members = ap members_at (node_at nodes all are before (UnionNode ns) added more e) in
          elim (union_parts ds (length before) outer path m q ns members h) [
            | inl t ↦ first_in before (Whole (UnionNode ns)) added m t.0
            | inr p ↦ rest_in before (Whole (UnionNode ns)) added m (members_range parts more (spans-after before (Whole (UnionNode ns)) added more all e) p.i p.d p.k p.value p.node _ _ m q p.places)
          ]
      in_range (an_array {ms = ms} {d = d} {before = before} {added = added} {n = n} is lt at part) more e outer path m q h =
          let its = ap item_at (node_at nodes all are before (ArrayNode n) added more e) in
          elim (in_form ms forms.Array (length before) outer path m q (ap form_of is) h) [
            | inl t ↦ first_in before (Whole (ArrayNode n)) added m t.0
            | inr p ↦ rest_in before (Whole (ArrayNode n)) added m (in_range part more (spans-after before (Whole (ArrayNode n)) added more all e) _ _ m q (held_is _ _ _ m q d n at its p))
          ]
      in_range (a_map {ms = ms} {d = d} {before = before} {added = added} {n = n} is lt at part) more e outer path m q h =
          let its = ap value_at (node_at nodes all are before (MapNode n) added more e) in
          elim (in_form ms forms.Map (length before) outer path m q (ap form_of is) h) [
            | inl t ↦ first_in before (Whole (MapNode n)) added m t.0
            | inr p ↦ rest_in before (Whole (MapNode n)) added m (in_range part more (spans-after before (Whole (MapNode n)) added more all e) _ _ m q (held_is _ _ _ m q d n at its p))
          ]
      in_range (a_record {ms = ms} {ds = ds} {names = names} {before = before} {added = added} {fs = fs} is lt name at parts apart most) more e outer path m q h =
          let its = types_there nodes all are before names fs added more e in
          elim (in_form ms forms.Record (length before) outer path m q (ap form_of is) h) [
            | inl t ↦ first_in before (RecordDraft names fs) added m t.0
            | inr p ↦ (
                let f = fields_are _ _ path m q ds (map (λ f. f.node) fs) at its p in
                rest_in before (RecordDraft names fs) added m (fields_range parts more (spans-after before (RecordDraft names fs) added more all e) f.i f.g f.d f.k f.value f.type f.node _ _ m q f.places))
          ]
      in_range (an_enum {ms = ms} {names = names} {before = before} {symbols = symbols} {default = default} is lt name a b) more e outer path m q h =
          first_in before (Whole (EnumNode names symbols default)) [] m (in_form ms forms.Enum (length before) outer path m q (ap form_of is) h).0
      in_range (a_fixed {ms = ms} {names = names} {before = before} {size = size} is lt name a) more e outer path m q h =
          first_in before (Whole (FixedNode names size)) [] m (in_form ms forms.Fixed (length before) outer path m q (ap form_of is) h).0
      in_range (another {ms = ms} {d = d} {n = n} is none part) more e outer path m q h =
          in_range part more e outer (path ++ steps.Type ∷ []) m q (wrapped_is _ n outer path m q d is (in_form ms forms.Other n outer path m q (ap form_of is ∙ other_is d none) h))

      members_range : {ds : Items} {enclosing : List ℕ} {before : List Draft} {ns : List ℕ} {added : List Draft} → DeclareMembers ds enclosing before ns added → (more : List Draft) → Spans before added more all
          → (i : ℕ) (d : Data) (k : ℕ) → get_item i ds ≡ Some d → slice_get ns i ≡ Some k → (outer path : Path) (m : ℕ) (q : Path) → Places nodes d k outer path m q → IsIn before added m
      members_range no_more_members more e i d k a b outer path m q h = absurd cc
      members_range (a_member {d = x} {before = before} {added = added} {more = later} {n = n} first rest) more e zero d k a b outer path m q h =
          left_in before added later m (in_range first (later ++ more) (spans-first before added later more all e) outer path m q (moved d x k n outer path m q a b h))
      members_range (a_member {before = before} {added = added} {more = later} first rest) more e (suc i) d k a b outer path m q h =
          right_in before added later m (members_range rest more (spans-rest before added later more all e) i d k a b outer path m q h)

      fields_range : {ds : Items} {enclosing : List ℕ} {before : List Draft} {fs : List DraftField} {added : List Draft} → DeclareFields ds enclosing before fs added → (more : List Draft) → Spans before added more all
          → (i : ℕ) (g d : Data) (k : ℕ) → get_item i ds ≡ Some g → get (codes "type") g ≡ Some d → slice_get (map (λ f. f.node) fs) i ≡ Some k → (outer path : Path) (m : ℕ) (q : Path) → Places nodes d k outer path m q → IsIn before added m
      fields_range no_more_fields more e i g d k a t b outer path m q h = absurd cc
      fields_range (a_field {ms = ms} {d = x} {before = before} {added = added} {more = later} {n = n} name rule others at first rest) more e zero g d k a t b outer path m q h =
          let type = type_same ms x g d at a t in
          left_in before added later m (in_range first (later ++ more) (spans-first before added later more all e) outer path m q (moved d x k n outer path m q type b h))
      fields_range (a_field {before = before} {added = added} {more = later} name rule others at first rest) more e (suc i) g d k a t b outer path m q h =
          right_in before added later m (fields_range rest more (spans-rest before added later more all e) i g d k a t b outer path m q h)

    -- ---- so two paths of a node lie in the same part

    mutual
      one : {d : Data} {enclosing : List ℕ} {before : List Draft} {n : ℕ} {added : List Draft} → Declares d enclosing before n added → (more : List Draft) → Spans before added more all
          → (outer path : Path) (m : ℕ) (q r : Path) → Places nodes d n outer path m q → Places nodes d n outer path m r → q ≡ r
      one (a_primitive {s = s} {before = before} p lt) more e outer path m q r h k =
          sym (word_only nodes s (length before) outer path m q h).1.1 ∙ (word_only nodes s (length before) outer path m r k).1.1
      one (a_reference {s = s} {n = n} none at) more e outer path m q r h k =
          absurd (no_leaf (word_of s) (no_primitive_is s none) (word_only nodes s n outer path m q h).0)
      one (a_union {ds = ds} {before = before} {added = added} {ns = ns} lt parts apart) more e outer path m q r h k =
          let x = Whole (UnionNode ns) in
          let rest = spans-after before x added more all e in
          let members = ap members_at (node_at nodes all are before (UnionNode ns) added more e) in
          of_parts before x added m outer q r (Member ds ns (λ i. path ++ member_steps i) m)
          (λ s p. members_range parts more rest p.i p.d p.k p.value p.node _ _ m s p.places)
          (λ a b. members_one parts more rest (λ i. path ++ member_steps i) m q r a.i a.d a.k b.i b.d b.k a.value a.node b.value b.node a.places b.places)
          (union_parts ds (length before) outer path m q ns members h) (union_parts ds (length before) outer path m r ns members k)
      one (an_array {ms = ms} {d = d} {before = before} {added = added} {n = n} is lt at part) more e outer path m q r h k =
          let x = Whole (ArrayNode n) in
          let rest = spans-after before x added more all e in
          let its = ap item_at (node_at nodes all are before (ArrayNode n) added more e) in
          let here = path ++ steps.Items ∷ [] in
          of_parts before x added m outer q r (λ s. InHeld nodes (get (codes "items") (object ms)) (item_at (slice_get nodes (length before))) here m s)
          (λ s p. in_range part more rest here here m s (held_is _ _ here m s d n at its p))
          (λ a b. one part more rest here here m q r (held_is _ _ here m q d n at its a) (held_is _ _ here m r d n at its b))
          (in_form ms forms.Array (length before) outer path m q (ap form_of is) h) (in_form ms forms.Array (length before) outer path m r (ap form_of is) k)
      one (a_map {ms = ms} {d = d} {before = before} {added = added} {n = n} is lt at part) more e outer path m q r h k =
          let x = Whole (MapNode n) in
          let rest = spans-after before x added more all e in
          let its = ap value_at (node_at nodes all are before (MapNode n) added more e) in
          let here = path ++ steps.Values ∷ [] in
          of_parts before x added m outer q r (λ s. InHeld nodes (get (codes "values") (object ms)) (value_at (slice_get nodes (length before))) here m s)
          (λ s p. in_range part more rest here here m s (held_is _ _ here m s d n at its p))
          (λ a b. one part more rest here here m q r (held_is _ _ here m q d n at its a) (held_is _ _ here m r d n at its b))
          (in_form ms forms.Map (length before) outer path m q (ap form_of is) h) (in_form ms forms.Map (length before) outer path m r (ap form_of is) k)
      one (a_record {ms = ms} {ds = ds} {names = names} {before = before} {added = added} {fs = fs} is lt name at parts apart most) more e outer path m q r h k =
          let x = RecordDraft names fs in
          let rest = spans-after before x added more all e in
          let its = types_there nodes all are before names fs added more e in
          let ns = map (λ f. f.node) fs in
          of_parts before x added m outer q r (λ s. InFields nodes (get (codes "fields") (object ms)) (types_at (slice_get nodes (length before))) path m s)
          (λ s p. (let f = fields_are _ _ path m s ds ns at its p in fields_range parts more rest f.i f.g f.d f.k f.value f.type f.node _ _ m s f.places))
          (λ a b. (let f = fields_are _ _ path m q ds ns at its a in let g = fields_are _ _ path m r ds ns at its b in
          fields_one parts more rest (λ i. path ++ field_steps i) m q r f.i f.g f.d f.k g.i g.g g.d g.k f.value f.type f.node g.value g.type g.node f.places g.places))
          (in_form ms forms.Record (length before) outer path m q (ap form_of is) h) (in_form ms forms.Record (length before) outer path m r (ap form_of is) k)
      one (an_enum {ms = ms} {before = before} is lt name a b) more e outer path m q r h k =
          sym (in_form ms forms.Enum (length before) outer path m q (ap form_of is) h).1 ∙ (in_form ms forms.Enum (length before) outer path m r (ap form_of is) k).1
      one (a_fixed {ms = ms} {before = before} is lt name a) more e outer path m q r h k =
          sym (in_form ms forms.Fixed (length before) outer path m q (ap form_of is) h).1 ∙ (in_form ms forms.Fixed (length before) outer path m r (ap form_of is) k).1
      one (another {ms = ms} {d = d} {n = n} is none part) more e outer path m q r h k =
          let form = ap form_of is ∙ other_is d none in
          one part more e outer (path ++ steps.Type ∷ []) m q r (wrapped_is _ n outer path m q d is (in_form ms forms.Other n outer path m q form h)) (wrapped_is _ n outer path m r d is (in_form ms forms.Other n outer path m r form k))

      members_one : {ds : Items} {enclosing : List ℕ} {before : List Draft} {ns : List ℕ} {added : List Draft} → DeclareMembers ds enclosing before ns added → (more : List Draft) → Spans before added more all
          → (at : ℕ → Path) (m : ℕ) (q r : Path) (i : ℕ) (d : Data) (k : ℕ) (j : ℕ) (c : Data) (l : ℕ) → get_item i ds ≡ Some d → slice_get ns i ≡ Some k → get_item j ds ≡ Some c → slice_get ns j ≡ Some l
          → Places nodes d k (at i) (at i) m q → Places nodes c l (at j) (at j) m r → q ≡ r
      members_one no_more_members more e at m q r i d k j c l v n w o p s = absurd cc
      members_one (a_member {d = x} {before = before} {added = added} {more = later} {n = y} first rest) more e at m q r zero d k zero c l v n w o p s =
          one first (later ++ more) (spans-first before added later more all e) (at zero) (at zero) m q r (moved d x k y _ _ m q v n p) (moved c x l y _ _ m r w o s)
      members_one (a_member {d = x} {before = before} {added = added} {more = later} {n = y} first rest) more e at m q r zero d k (suc j) c l v n w o p s =
          absurd (left_not_right before added later m (in_range first (later ++ more) (spans-first before added later more all e) _ _ m q (moved d x k y _ _ m q v n p))
          (members_range rest more (spans-rest before added later more all e) j c l w o _ _ m r s))
      members_one (a_member {d = x} {before = before} {added = added} {more = later} {n = y} first rest) more e at m q r (suc i) d k zero c l v n w o p s =
          absurd (left_not_right before added later m (in_range first (later ++ more) (spans-first before added later more all e) _ _ m r (moved c x l y _ _ m r w o s))
          (members_range rest more (spans-rest before added later more all e) i d k v n _ _ m q p))
      members_one (a_member {before = before} {added = added} {more = later} first rest) more e at m q r (suc i) d k (suc j) c l v n w o p s =
          members_one rest more (spans-rest before added later more all e) (λ z. at (suc z)) m q r i d k j c l v n w o p s

      fields_one : {ds : Items} {enclosing : List ℕ} {before : List Draft} {fs : List DraftField} {added : List Draft} → DeclareFields ds enclosing before fs added → (more : List Draft) → Spans before added more all
          → (at : ℕ → Path) (m : ℕ) (q r : Path) (i : ℕ) (g d : Data) (k : ℕ) (j : ℕ) (b c : Data) (l : ℕ)
          → get_item i ds ≡ Some g → get (codes "type") g ≡ Some d → slice_get (map (λ f. f.node) fs) i ≡ Some k → get_item j ds ≡ Some b → get (codes "type") b ≡ Some c → slice_get (map (λ f. f.node) fs) j ≡ Some l
          → Places nodes d k (at i) (at i) m q → Places nodes c l (at j) (at j) m r → q ≡ r
      fields_one no_more_fields more e at m q r i g d k j b c l v t n w u o p s = absurd cc
      fields_one (a_field {ms = ms} {d = x} {before = before} {added = added} {more = later} {n = y} name rule others type first rest) more e at m q r zero g d k zero b c l v t n w u o p s =
          one first (later ++ more) (spans-first before added later more all e) (at zero) (at zero) m q r (moved d x k y _ _ m q (type_same ms x g d type v t) n p) (moved c x l y _ _ m r (type_same ms x b c type w u) o s)
      fields_one (a_field {ms = ms} {d = x} {before = before} {added = added} {more = later} {n = y} name rule others type first rest) more e at m q r zero g d k (suc j) b c l v t n w u o p s =
          absurd (left_not_right before added later m (in_range first (later ++ more) (spans-first before added later more all e) _ _ m q (moved d x k y _ _ m q (type_same ms x g d type v t) n p))
          (fields_range rest more (spans-rest before added later more all e) j b c l w u o _ _ m r s))
      fields_one (a_field {ms = ms} {d = x} {before = before} {added = added} {more = later} {n = y} name rule others type first rest) more e at m q r (suc i) g d k zero b c l v t n w u o p s =
          absurd (left_not_right before added later m (in_range first (later ++ more) (spans-first before added later more all e) _ _ m r (moved c x l y _ _ m r (type_same ms x b c type w u) o s))
          (fields_range rest more (spans-rest before added later more all e) i g d k v t n _ _ m q p))
      fields_one (a_field {before = before} {added = added} {more = later} name rule others type first rest) more e at m q r (suc i) g d k (suc j) b c l v t n w u o p s =
          fields_one rest more (spans-rest before added later more all e) (λ z. at (suc z)) m q r i g d k j b c l v t n w u o p s

pub one_path : EachNodeHasOnePath
one_path value nodes a k q r h i = one nodes a.drafts a.defaults a.declares [] (sym (append-nil a.drafts)) [] [] k q r h i

pub only_nodes : OnlyNodesHavePaths
only_nodes value nodes a k q h =
    let r = in_range nodes a.drafts a.defaults a.declares [] (sym (append-nil a.drafts)) [] [] k q h in
    let count = count_same a.drafts a.drafts nodes a.defaults in
    omega (arith, r.1, count)
