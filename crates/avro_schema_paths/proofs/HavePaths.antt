-- Each node that a value declares has a path in it: by induction on what is declared.
use Rattle.std.proofs.Common.{◌≡◌, ◌⊎◌, inl, inr, ℕ, zero, suc, ◌+◌, ◌<◌, ◌≤◌, List, [], ◌∷◌, ◌++◌, length, map, Some, slice_get, refl, sym, ap, ◌∙◌, subst, codes, arith, append_assoc, append-nil, length-append}
use Rattle.std.proofs.lemmas.Bool.{cases_lt}
use Rattle.serde_json.specs.Data.{Data, array, object, Items}
use Rattle.serde_json.specs.Find.{get, get_item}
use Rattle.spec_avro.specs.Node.{Node, FieldNode, ArrayNode, MapNode, UnionNode}
use Rattle.spec_schema.specs.Word.{form_of, leaf_of, word_of}
use Rattle.spec_schema.specs.Draft.{Draft, Whole, RecordDraft, DraftField}
use Rattle.spec_schema.specs.Declaring.{DeclareFields, DeclareMembers, Declares, IsPrimitive, a_field, a_fixed, a_map, a_member, a_primitive, a_record, a_reference, a_union, an_array, an_enum, another, no_more_fields, no_more_members, null_type, boolean_type, int_type, long_type, bytes_type, text_type}
use Rattle.avro_schema.proofs.WordCases.{other_is}
use Rattle.spec_schema.specs.DefaultData.{AreFieldsOf, AreNodesOf, IsFieldOf, IsNodeOf, a_record_of, a_whole, no_more_nodes, one_more_field, one_more_node, with_default, without_default}
use Rattle.spec_schema.specs.DefaultData as defaults
use Rattle.avro_schema_paths.specs.Laws.{EachNodeHasPath}
use Rattle.avro_schema_paths.specs.Parts.{field_steps, member_steps}
use Rattle.avro_schema_paths.specs.Places.{IsPathOf, Path, Places, a_type, in_wrapper, in_array, in_map, in_record, in_union, a_word, declares, form_at, item_at, members_at, types_at, value_at}
use Rattle.avro_schema_paths.specs.Places as places
use Rattle.avro_schema_paths.specs.declared.step.Step.TheVariants as steps

primitive_leaf : {s : List ℕ} {node : Node} → IsPrimitive s node → leaf_of (word_of s) ≡ Some node
primitive_leaf null_type = refl
primitive_leaf boolean_type = refl
primitive_leaf int_type = refl
primitive_leaf long_type = refl
primitive_leaf bytes_type = refl
primitive_leaf text_type = refl

-- ---- the places of nodes among all

abbrev pub Spans : List Draft → List Draft → List Draft → List Draft → Type 0
Spans before added more all = all ≡ (before ++ added) ++ more

pub spans-after : (before : List Draft) (d : Draft) (added more all : List Draft) → Spans before (d ∷ added) more all → Spans (before ++ d ∷ []) added more all
spans-after before d added more all e = e ∙ ap (λ ds. ds ++ more) (sym (append_assoc before (d ∷ []) added))

pub spans-first : (before added more others all : List Draft) → Spans before (added ++ more) others all → Spans before added (more ++ others) all
spans-first before added more others all e = e ∙ ap (λ ds. ds ++ others) (sym (append_assoc before added more)) ∙ append_assoc (before ++ added) more others

pub spans-rest : (before added more others all : List Draft) → Spans before (added ++ more) others all → Spans (before ++ added) more others all
spans-rest before added more others all e = e ∙ ap (λ ds. ds ++ others) (sym (append_assoc before added more))

seam : (before : List Draft) (d : Draft) (more : List Draft) → slice_get (before ++ d ∷ more) (length before) ≡ Some d
seam [] d more = refl
seam (x ∷ before) d more = seam before d more

own : (before : List Draft) (d : Draft) (added more all : List Draft) → Spans before (d ∷ added) more all → slice_get all (length before) ≡ Some d
own before d added more all e = ap (λ ds. slice_get ds (length before)) (e ∙ append_assoc before (d ∷ added) more) ∙ seam before d (added ++ more)

-- ---- nodes of drafts

pub record HasNode (drafts : List Draft) (nodes : List Node) (i : ℕ) (d : Draft) : Type 0 where
  pub node : Node
  pub at : slice_get nodes i ≡ Some node
  pub of : IsNodeOf drafts d node

node_there : (drafts ds : List Draft) (nodes : List Node) → AreNodesOf drafts ds nodes → (i : ℕ) (d : Draft) → slice_get ds i ≡ Some d → HasNode drafts nodes i d
node_there drafts ds nodes no_more_nodes i d e = absurd cc
node_there drafts ds nodes (one_more_node {draft = x} {node = y} is rest) zero d e = let same : x ≡ d = cc in record { node = y; at = refl; of = subst (λ (z : Draft). IsNodeOf drafts z y) same is }
node_there drafts ds nodes (one_more_node {drafts = xs} {rest = ys} is rest) (suc i) d e = (let h = node_there drafts xs ys rest i d e in record { node = h.node; at = h.at; of = h.of })

pub count_same : (drafts ds : List Draft) (nodes : List Node) → AreNodesOf drafts ds nodes → length nodes ≡ length ds
count_same drafts ds nodes no_more_nodes = refl
count_same drafts ds nodes (one_more_node {drafts = xs} {rest = ys} is rest) = ap suc (count_same drafts xs ys rest)

whole_is : (drafts : List Draft) (d : Draft) (node n : Node) → IsNodeOf drafts d node → d ≡ Whole n → node ≡ n
whole_is drafts d node n (a_whole {node = m}) e = (let same : m ≡ n = cc in same)
whole_is drafts d node n (a_record_of fs) e = absurd cc

field_node : (drafts : List Draft) (f : DraftField) (g : FieldNode) → IsFieldOf drafts f g → g.node ≡ f.node
field_node drafts f g without_default = refl
field_node drafts f g (with_default is) = refl

types_same : (drafts : List Draft) (fs : List DraftField) (gs : List FieldNode) → AreFieldsOf drafts fs gs → map (λ g. g.node) gs ≡ map (λ f. f.node) fs
types_same drafts fs gs defaults.no_more_fields = refl
types_same drafts fs gs (one_more_field {f = f} {node = g} {fs = xs} {rest = ys} is rest) = let head = field_node drafts f g is in let tail = types_same drafts xs ys rest in cc

record_types : (drafts : List Draft) (d : Draft) (node : Node) → IsNodeOf drafts d node → (fs : List DraftField) (names : _) → d ≡ RecordDraft names fs → types_at (Some node) ≡ map (λ f. f.node) fs
record_types drafts d node a_whole fs names e = absurd cc
record_types drafts d node (a_record_of {fs = gs} {fields = fields} are) fs names e = let same : gs ≡ fs = cc in types_same drafts gs fields are ∙ ap (λ (x : List DraftField). map (λ f. f.node) x) same

module _ (nodes : List Node) (all : List Draft) (are : AreNodesOf all all nodes) where
  pub node_at : (before : List Draft) (n : Node) (added more : List Draft) → Spans before (Whole n ∷ added) more all → slice_get nodes (length before) ≡ Some n
  node_at before n added more e =
      let h = node_there all all nodes are (length before) (Whole n) (own before (Whole n) added more all e) in
      h.at ∙ ap Some (whole_is all (Whole n) h.node n h.of refl)

  pub types_there : (before : List Draft) (names : _) (fs : List DraftField) (added more : List Draft) → Spans before (RecordDraft names fs ∷ added) more all → types_at (slice_get nodes (length before)) ≡ map (λ f. f.node) fs
  types_there before names fs added more e =
      let h = node_there all all nodes are (length before) (RecordDraft names fs) (own before (RecordDraft names fs) added more all e) in
      ap types_at h.at ∙ record_types all (RecordDraft names fs) h.node h.of fs names refl

  -- wherever the value is, that node has a path
  abbrev HasPath : Data → ℕ → ℕ → Type 0
  HasPath d n k = (outer path : Path) → (q : Path) × Places nodes d n outer path k q

  pub record InSome (ds : Items) (ns : List ℕ) (k : ℕ) : Type 0 where
    pub i : ℕ
    pub d : Data
    pub j : ℕ
    pub value : get_item i ds ≡ Some d
    pub node : slice_get ns i ≡ Some j
    pub path : HasPath d j k

  pub record InTyped (ds : Items) (ns : List ℕ) (k : ℕ) : Type 0 where
    pub i : ℕ
    pub g : Data
    pub d : Data
    pub j : ℕ
    pub value : get_item i ds ≡ Some g
    pub type : get (codes "type") g ≡ Some d
    pub node : slice_get ns i ≡ Some j
    pub path : HasPath d j k

  here : (d : Data) (n k : ℕ) → n ≡ k → ((outer path : Path) → Places nodes d n outer path n outer) → HasPath d n k
  here d n k e p = λ outer path. (outer, subst (λ (x : ℕ). Places nodes d n outer path x outer) e (p outer path))

  -- the first of the added nodes, or one after it
  split : (before : List Draft) (d : Draft) (added : List Draft) (k : ℕ) → length before ≤ k → k < length before + length (d ∷ added) → (length before ≡ k) ⊎ ((length (before ++ d ∷ []) ≤ k) × (k < length (before ++ d ∷ []) + length added))
  split before d added k from below = elim (cases_lt (length before) k) [
    | inl lt ↦ inr (let one = length-append before (d ∷ []) in (omega (arith, one, lt), omega (arith, one, below)))
    | inr le ↦ inl (omega (arith, from, le))
  ]

  mutual
    path_in : {d : Data} {enclosing : List ℕ} {before : List Draft} {n : ℕ} {added : List Draft} → Declares d enclosing before n added → (more : List Draft) → Spans before added more all → (k : ℕ) → length before ≤ k → k < length before + length added → HasPath d n k
    path_in (a_primitive {before = before} p lt) more e k from below = here _ (length before) k (omega (arith, from, below)) (λ outer path. a_word (primitive_leaf p))
    path_in (a_reference p at) more e k from below = absurd (omega (arith, from, below))
    path_in (a_union {ds = ds} {before = before} {added = added} {ns = ns} lt parts apart) more e k from below = elim (split before (Whole (UnionNode ns)) added k from below) [
      | inl same ↦ here (array ds) (length before) k same (λ outer path. places.a_union)
      | inr p ↦ (
          let m = path_members parts more (spans-after before (Whole (UnionNode ns)) added more all e) k p.0 p.1 in
          let members = ap members_at (node_at before (UnionNode ns) added more e) in
          λ outer path. (let q = m.path (path ++ member_steps m.i) (path ++ member_steps m.i) in (q.0, in_union m.i (ap (λ (x : List ℕ). slice_get x m.i) members ∙ m.node) m.value q.1)))
    ]
    path_in (an_array {ms = ms} {d = d} {before = before} {added = added} {n = n} is lt at part) more e k from below = elim (split before (Whole (ArrayNode n)) added k from below) [
      | inl same ↦ here (object ms) (length before) k same (λ outer path. a_type (ap declares (ap form_of is)))
      | inr p ↦ (
          let m = path_in part more (spans-after before (Whole (ArrayNode n)) added more all e) k p.0 p.1 in
          let its = ap item_at (node_at before (ArrayNode n) added more e) in
          λ outer path. (let q = m (path ++ steps.Items ∷ []) (path ++ steps.Items ∷ []) in (q.0, in_array (ap form_of is) its at q.1)))
    ]
    path_in (a_map {ms = ms} {d = d} {before = before} {added = added} {n = n} is lt at part) more e k from below = elim (split before (Whole (MapNode n)) added k from below) [
      | inl same ↦ here (object ms) (length before) k same (λ outer path. a_type (ap declares (ap form_of is)))
      | inr p ↦ (
          let m = path_in part more (spans-after before (Whole (MapNode n)) added more all e) k p.0 p.1 in
          let its = ap value_at (node_at before (MapNode n) added more e) in
          λ outer path. (let q = m (path ++ steps.Values ∷ []) (path ++ steps.Values ∷ []) in (q.0, in_map (ap form_of is) its at q.1)))
    ]
    path_in (a_record {ms = ms} {ds = ds} {names = names} {before = before} {added = added} {fs = fs} is lt name at parts apart most) more e k from below = elim (split before (RecordDraft names fs) added k from below) [
      | inl same ↦ here (object ms) (length before) k same (λ outer path. a_type (ap declares (ap form_of is)))
      | inr p ↦ (
          let m = path_fields parts more (spans-after before (RecordDraft names fs) added more all e) k p.0 p.1 in
          let its = types_there before names fs added more e in
          λ outer path. (let q = m.path (path ++ field_steps m.i) (path ++ field_steps m.i) in (q.0, in_record m.i (ap form_of is) (ap (λ (x : List ℕ). slice_get x m.i) its ∙ m.node) at m.value m.type q.1)))
    ]
    path_in (an_enum {ms = ms} {before = before} is lt name a b) more e k from below = here (object ms) (length before) k (omega (arith, from, below)) (λ outer path. a_type (ap declares (ap form_of is)))
    path_in (a_fixed {ms = ms} {before = before} is lt name a) more e k from below = here (object ms) (length before) k (omega (arith, from, below)) (λ outer path. a_type (ap declares (ap form_of is)))
    path_in (another {d = d} is none part) more e k from below =
        let m = path_in part more e k from below in
        λ outer path. (let q = m outer (path ++ steps.Type ∷ []) in (q.0, in_wrapper (ap form_of is ∙ other_is d none) is q.1))

    path_members : {ds : Items} {enclosing : List ℕ} {before : List Draft} {ns : List ℕ} {added : List Draft} → DeclareMembers ds enclosing before ns added → (more : List Draft) → Spans before added more all → (k : ℕ) → length before ≤ k → k < length before + length added → InSome ds ns k
    path_members no_more_members more e k from below = absurd (omega (arith, from, below))
    path_members (a_member {d = d} {before = before} {added = added} {more = later} {n = n} first rest) more e k from below = elim (cases_lt k (length before + length added)) [
      | inl lt ↦ record { i = 0; d = d; j = n; value = refl; node = refl; path = path_in first (later ++ more) (spans-first before added later more all e) k from lt }
      | inr le ↦ (
          let both = length-append before added in
          let rows = length-append added later in
          let r = path_members rest more (spans-rest before added later more all e) k (omega (arith, both, le)) (omega (arith, both, rows, below)) in
          record { i = suc r.i; d = r.d; j = r.j; value = r.value; node = r.node; path = r.path })
    ]

    path_fields : {ds : Items} {enclosing : List ℕ} {before : List Draft} {fs : List DraftField} {added : List Draft} → DeclareFields ds enclosing before fs added → (more : List Draft) → Spans before added more all → (k : ℕ) → length before ≤ k → k < length before + length added → InTyped ds (map (λ f. f.node) fs) k
    path_fields no_more_fields more e k from below = absurd (omega (arith, from, below))
    path_fields (a_field {ms = ms} {d = d} {before = before} {added = added} {more = later} {n = n} name rule others at first rest) more e k from below = elim (cases_lt k (length before + length added)) [
      | inl lt ↦ record { i = 0; g = object ms; d = d; j = n; value = refl; type = at; node = refl; path = path_in first (later ++ more) (spans-first before added later more all e) k from lt }
      | inr le ↦ (
          let both = length-append before added in
          let rows = length-append added later in
          let r = path_fields rest more (spans-rest before added later more all e) k (omega (arith, both, le)) (omega (arith, both, rows, below)) in
          record { i = suc r.i; g = r.g; d = r.d; j = r.j; value = r.value; type = r.type; node = r.node; path = r.path })
    ]

pub each_has_path : EachNodeHasPath
each_has_path value nodes a k lt = path_in nodes a.drafts a.defaults a.declares [] (sym (append-nil a.drafts)) k (omega arith) (omega (arith, lt, count_same a.drafts a.drafts nodes a.defaults)) [] []
