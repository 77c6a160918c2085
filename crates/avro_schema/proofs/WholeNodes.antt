-- The law of declared nodes: they are well formed.
use Rattle.std.proofs.Common.{◌≡◌, ℕ, zero, suc, ◌+◌, ◌<◌, ◌≤◌, ◌⊎◌, inl, inr, List, [], ◌∷◌, length, map, Bool, true, false, cond, Option, Some, None, Result, Ok, Err, refl, sym, ap, subst, ◌∙◌, arith, slice_get, option_map}
use Rattle.std.specs.List.{AllByRecursion, IsDistinct}
use Rattle.std.specs.Option.{ok_or}
use Rattle.std.specs.Str.{bytes_eq}
use Rattle.serde_json.specs.Data.{Data}
use Rattle.serde_json.specs.Read.{read}
use Rattle.serde_json.specs.Written.{has_float}
use Rattle.spec_schema.specs.declared.schema_error.SchemaError.{SchemaError}
use Rattle.spec_schema.specs.declared.schema_error.SchemaError.TheVariants.{BadNumber, BadDefault}
use Rattle.avro_schema.specs.Contract.{run}
use Rattle.spec_avro.specs.Datum.{Datum}
use Rattle.spec_schema.specs.Defaults.{all_defaults, field_defaults, fields_with, finished, node_defaults, node_with, nodes_with, field_default}
use Rattle.spec_schema.specs.Draft.{Draft, Whole, RecordDraft, DraftField}
use Rattle.avro_schema_names.specs.Draft.{HasFewSymbols, HaveFewSymbols}
use Rattle.spec_schema.specs.Steps.{◌>>=◌}
use Rattle.spec_schema.specs.Head.{Head, Named, head_at, head_of, head_of_node, heads_of, is_same_type}
use Rattle.spec_avro.specs.Node.{Node, NullNode, BooleanNode, IntNode, LongNode, BytesNode, TextNode, FixedNode, EnumNode, ArrayNode, MapNode, UnionNode, RecordNode}
use Rattle.spec_avro.specs.WellFormed.{AreApart, FieldsBelow, HoldsItem, IsMember, IsPartOf, IsWellFormed, NodeIsWellFormed, are_of_one_type, full_name_of, is_named, is_union}
use Rattle.avro_types.specs.Laws.Booleans.{false_by, no_true, none_some, some_inside}
use Rattle.spec_avro.specs.declared.limits.TheConstants.{MOST_NODES}
use Rattle.std.proofs.lemmas.Slice.Eq.{bytes_eq-Decides}
use Rattle.spec_schema.specs.Definitions.{AreDefinedOnce, IsDefinedAt}
use Rattle.spec_schema.specs.Schema.{declared, nodes_in_read}
use Rattle.spec_schema.specs.Names.{null_namespace}
use Rattle.spec_schema.specs.Walk.{added, walk}
use Rattle.avro_schema.proofs.FinishedNodes.{in-row, node-finished, length-finished, head-finished}
use Rattle.avro_schema.proofs.Fits.{AllFrom, DraftFits, Gives, ItemFits, MemberFits, PartFits, is_named_there, is_union_there}
use Rattle.avro_schema_names.proofs.DraftLists.{length-heads_of}
use Rattle.avro_schema.proofs.DeclaringBothWays.{declares}
use Rattle.avro_schema.proofs.DeclaredFits.{few, fits_alone}
use Rattle.avro_schema.proofs.DefinedOnce.{once}
use Rattle.avro_schema.proofs.DefinedPlaces.{defined_is-some}

-- ---- the heads of nodes

same_full : (a b : List ℕ) → bytes_eq a b ≡ true → bytes_eq b a ≡ true
same_full a b e = (bytes_eq-Decides b a).1 (sym ((bytes_eq-Decides a b).0 e))

heads-finished : (drafts rest : List Draft) (all : List (List (Option Datum))) → all_defaults drafts rest ≡ Some all → map head_of_node (nodes_with rest all) ≡ heads_of rest
heads-finished drafts [] all e = refl
heads-finished drafts (d ∷ rest) all e =
    let r = in-row (node_defaults drafts d) (all_defaults drafts rest) all e in
    rw r.all_are (ap (λ h. h ∷ map head_of_node (nodes_with rest r.tail)) (head-finished d r.head) ∙ ap (λ hs. head_of d ∷ hs) (heads-finished drafts rest r.tail r.rest_is))

union_node : (n : Node) → is_union (Some n) ≡ is_union_there (Some (head_of_node n))
union_node NullNode = refl
union_node BooleanNode = refl
union_node IntNode = refl
union_node LongNode = refl
union_node BytesNode = refl
union_node TextNode = refl
union_node (FixedNode name size) = refl
union_node (EnumNode name symbols default) = refl
union_node (ArrayNode n) = refl
union_node (MapNode n) = refl
union_node (UnionNode ms) = refl
union_node (RecordNode name fs) = refl

named_node : (n : Node) → is_named (Some n) ≡ is_named_there (Some (head_of_node n))
named_node NullNode = refl
named_node BooleanNode = refl
named_node IntNode = refl
named_node LongNode = refl
named_node BytesNode = refl
named_node TextNode = refl
named_node (FixedNode names size) = refl
named_node (EnumNode names symbols default) = refl
named_node (ArrayNode item) = refl
named_node (MapNode value) = refl
named_node (UnionNode members) = refl
named_node (RecordNode names fs) = refl

named_at : (ns : List Node) (n : ℕ) → is_named (slice_get ns n) ≡ is_named_there (slice_get (map head_of_node ns) n)
named_at [] n = refl
named_at (k ∷ ns) zero = named_node k
named_at (k ∷ ns) (suc n) = named_at ns n

union_there : (ns : List Node) (n : ℕ) → is_union (slice_get ns n) ≡ is_union_there (slice_get (map head_of_node ns) n)
union_there [] n = refl
union_there (k ∷ ns) zero = union_node k
union_there (k ∷ ns) (suc n) = union_there ns n

-- ---- fields with their defaults

below_with : (len : ℕ) (fs : List DraftField) (ds : List (Option Datum)) → AllByRecursion (λ f. f.node < len) fs → FieldsBelow len (fields_with fs ds)
below_with len [] ds h = tt
below_with len (f ∷ fs) [] h = tt
below_with len (f ∷ fs) (d ∷ ds) h = (h.0, below_with len fs ds h.1)

names_with : (drafts : List Draft) (fs : List DraftField) (ds : List (Option Datum)) → field_defaults drafts fs ≡ Some ds → map (λ f. f.name) (fields_with fs ds) ≡ map (λ f. f.name) fs
names_with drafts [] ds e = refl
names_with drafts (f ∷ fs) ds e =
    let r = in-row (field_default drafts f.node f.default) (field_defaults drafts fs) ds e in
    rw r.all_are (ap (λ names. f.name ∷ names) (names_with drafts fs r.tail r.rest_is))

length-fields : (drafts : List Draft) (fs : List DraftField) (ds : List (Option Datum)) → field_defaults drafts fs ≡ Some ds → length (fields_with fs ds) ≡ length fs
length-fields drafts [] ds e = refl
length-fields drafts (f ∷ fs) ds e =
    let r = in-row (field_default drafts f.node f.default) (field_defaults drafts fs) ds e in
    rw r.all_are (ap suc (length-fields drafts fs r.tail r.rest_is))

-- ---- members of one type

-- two nodes of one type have heads of one type
one_type : (a b : Node) → are_of_one_type (Some a) (Some b) ≡ true → is_same_type (head_of_node a) (head_of_node b) ≡ true
one_type NullNode NullNode e = refl
one_type BooleanNode BooleanNode e = refl
one_type IntNode IntNode e = refl
one_type LongNode LongNode e = refl
one_type BytesNode BytesNode e = refl
one_type TextNode TextNode e = refl
one_type (ArrayNode m) (ArrayNode n) e = refl
one_type (MapNode m) (MapNode n) e = refl
one_type (FixedNode names s) (FixedNode others t) e = same_full names.full others.full e
one_type (FixedNode names s) (EnumNode others ss d) e = same_full names.full others.full e
one_type (FixedNode names s) (RecordNode others fs) e = same_full names.full others.full e
one_type (EnumNode names ss d) (FixedNode others t) e = same_full names.full others.full e
one_type (EnumNode names ss d) (EnumNode others ts c) e = same_full names.full others.full e
one_type (EnumNode names ss d) (RecordNode others fs) e = same_full names.full others.full e
one_type (RecordNode names fs) (FixedNode others t) e = same_full names.full others.full e
one_type (RecordNode names fs) (EnumNode others ss d) e = same_full names.full others.full e
one_type (RecordNode names fs) (RecordNode others gs) e = same_full names.full others.full e
one_type a b e = absurd (let wrong : ⊥ = cc in wrong)

none_of_one_type : (a b : Node) → is_same_type (head_of_node a) (head_of_node b) ≡ false → are_of_one_type (Some a) (Some b) ≡ false
none_of_one_type a b e = false_by (are_of_one_type (Some a) (Some b)) (λ one. no_true (is_same_type (head_of_node a) (head_of_node b)) (one_type a b one) e)

-- of no node at all
none_at : (o : Option Node) → are_of_one_type o None ≡ false
none_at None = refl
none_at (Some NullNode) = refl
none_at (Some BooleanNode) = refl
none_at (Some IntNode) = refl
none_at (Some LongNode) = refl
none_at (Some BytesNode) = refl
none_at (Some TextNode) = refl
none_at (Some (ArrayNode n)) = refl
none_at (Some (MapNode n)) = refl
none_at (Some (UnionNode ms)) = refl
none_at (Some (FixedNode names s)) = refl
none_at (Some (EnumNode names ss d)) = refl
none_at (Some (RecordNode names fs)) = refl

node_at : (ns : List Node) (n : ℕ) → (slice_get ns n ≡ None) ⊎ ((node : Node) × (slice_get ns n ≡ Some node) × (head_at (map head_of_node ns) n ≡ head_of_node node))
node_at [] n = inl refl
node_at (k ∷ ns) zero = inr (k, refl, refl)
node_at (k ∷ ns) (suc n) = node_at ns n

apart_at : (ns : List Node) (m n : ℕ) → is_same_type (head_at (map head_of_node ns) m) (head_at (map head_of_node ns) n) ≡ false → are_of_one_type (slice_get ns m) (slice_get ns n) ≡ false
apart_at ns m n e =
    elim (node_at ns m) [
      | inl none ↦ rw none refl
      | inr a ↦
          elim (node_at ns n) [
            | inl none ↦ rw none (none_at (slice_get ns m))
            | inr b ↦ rw (a.1, b.1) (none_of_one_type a.0 b.0 (rw (a.2, b.2) at e))
          ]
    ]

none_alike : (ns : List Node) (m : ℕ) (ms : List ℕ) → AllByRecursion (λ h. is_same_type (head_at (map head_of_node ns) m) h ≡ false) (map (head_at (map head_of_node ns)) ms)
    → AllByRecursion (λ o. are_of_one_type (slice_get ns m) o ≡ false) (map (slice_get ns) ms)
none_alike ns m [] h = tt
none_alike ns m (n ∷ ms) h = (apart_at ns m n h.0, none_alike ns m ms h.1)

types_apart : (ns : List Node) (ms : List ℕ) → IsDistinct is_same_type (map (head_at (map head_of_node ns)) ms) → AreApart ns ms
unfolding IsDistinct
types_apart ns [] d = tt
types_apart ns (m ∷ ms) d = (none_alike ns m ms d.0, types_apart ns ms d.1)

-- ---- each node

module _ (drafts : List Draft) (ns : List Node) (same : map head_of_node ns ≡ heads_of drafts) (long : length ns ≡ length (heads_of drafts)) where
  part_well : (own n : ℕ) → PartFits (heads_of drafts) own n → IsPartOf ns own n
  part_well own n h = elim h [ inl lt ↦ inl lt | inr named ↦ inr (named_at ns n ∙ ap (λ hs. is_named_there (slice_get hs n)) same ∙ named) ]

  item_well : (own n : ℕ) → ItemFits (heads_of drafts) own n → HoldsItem ns own n
  item_well own n h = record { below = omega (arith, h.below, long); part = part_well own n h.part }

  members_well : (own : ℕ) (ms : List ℕ) → AllByRecursion (MemberFits (heads_of drafts) own) ms → AllByRecursion (IsMember ns own) ms
  members_well own [] h = tt
  members_well own (n ∷ ms) h = (
    record {
      below = omega (arith, h.0.below, long);
      no_union = union_there ns n ∙ ap (λ hs. is_union_there (slice_get hs n)) same ∙ h.0.no_union;
      part = part_well own n h.0.part;
    },
    members_well own ms h.1,
  )

  apart_well : (ms : List ℕ) → IsDistinct is_same_type (map (head_at (heads_of drafts)) ms) → AreApart ns ms
  apart_well ms d = types_apart ns ms (subst (λ hs. IsDistinct is_same_type (map (head_at hs) ms)) (sym same) d)

  node_well : (own : ℕ) (d : Draft) (defaults : List (Option Datum)) → node_defaults drafts d ≡ Some defaults → DraftFits (heads_of drafts) own d → NodeIsWellFormed ns own (node_with d defaults)
  node_well own (Whole NullNode) defaults e h = tt
  node_well own (Whole BooleanNode) defaults e h = tt
  node_well own (Whole IntNode) defaults e h = tt
  node_well own (Whole LongNode) defaults e h = tt
  node_well own (Whole BytesNode) defaults e h = tt
  node_well own (Whole TextNode) defaults e h = tt
  node_well own (Whole (FixedNode name size)) defaults e h = h
  node_well own (Whole (EnumNode name symbols default)) defaults e h = h
  node_well own (Whole (ArrayNode n)) defaults e h = item_well own n h
  node_well own (Whole (MapNode n)) defaults e h = item_well own n h
  node_well own (Whole (UnionNode ms)) defaults e h = (members_well own ms h.0, h.1, apart_well ms h.2)
  node_well own (Whole (RecordNode name fs)) defaults e h = absurd h
  node_well own (RecordDraft name fs) defaults e h =
      (below_with (length ns) fs defaults (subst (λ n. AllByRecursion (λ f. f.node < n) fs) (sym long) h.0), subst (IsDistinct bytes_eq) (sym (names_with drafts fs defaults e)) h.1, omega (arith, h.2, length-fields drafts fs defaults e))

pub each_from : (P : ℕ → Draft → Type 0) (i : ℕ) (ds : List Draft) → AllFrom P i ds → (j : ℕ) (d : Draft) → slice_get ds j ≡ Some d → P (i + j) d
each_from P i [] h j d e = absurd (let wrong : ⊥ = cc in wrong)
each_from P i (x ∷ ds) h zero d e = let is : x ≡ d = cc in subst (λ n. P n d) (let z : i ≡ i + 0 = omega arith in z) (subst (P i) is h.0)
each_from P i (x ∷ ds) h (suc j) d e = subst (λ n. P n d) (let z : suc i + j ≡ i + suc j = omega arith in z) (each_from P (suc i) ds h.1 j d e)

-- ---- all nodes

-- a node with a full name has a head with that name, and so has the draft at its index
full_head : (node : Node) (full : List ℕ) → full_name_of (Some node) ≡ Some full → head_of_node node ≡ Named full
full_head (FixedNode names size) full e = ap Named (some_inside names.full full e)
full_head (EnumNode names symbols default) full e = ap Named (some_inside names.full full e)
full_head (RecordNode names fs) full e = ap Named (some_inside names.full full e)
full_head _ full e = absurd (none_some full e)

named_head : (drafts rest : List Draft) (all : List (List (Option Datum))) → all_defaults drafts rest ≡ Some all → (n : ℕ) (full : List ℕ) → full_name_of (slice_get (nodes_with rest all) n) ≡ Some full → IsDefinedAt full rest n
named_head drafts rest all e n full is = on (slice_get (nodes_with rest all) n) refl is
  where
    on : (o : Option Node) → slice_get (nodes_with rest all) n ≡ o → full_name_of o ≡ Some full → IsDefinedAt full rest n
    on None at h = absurd (none_some full h)
    on (Some node) at h =
        let f = node-finished drafts rest all e n node at in
        (f.draft, f.placed, sym (head-finished f.draft f.defaults) ∙ ap head_of_node (sym f.whole) ∙ full_head node full h)

whole_nodes : (drafts : List Draft) (all : List (List (Option Datum))) → all_defaults drafts drafts ≡ Some all → 0 < length drafts → length drafts ≤ MOST_NODES → AreDefinedOnce drafts → AllFrom (DraftFits (heads_of drafts)) 0 drafts
    → IsWellFormed (nodes_with drafts all)
whole_nodes drafts all e some most once fits =
    let long = length-finished drafts drafts all e in record {
      root = omega (arith, long, some);
      few = omega (arith, long, most);
      each = λ own node at.
          let f = node-finished drafts drafts all e own node at in
          subst (NodeIsWellFormed (nodes_with drafts all) own) (sym f.whole)
          (node_well drafts (nodes_with drafts all) (heads-finished drafts drafts all e) (long ∙ sym (length-heads_of drafts)) own f.draft f.defaults f.read (subst (λ n. DraftFits (heads_of drafts) n f.draft) (let z : 0 + own ≡ own = omega arith in z) (each_from (DraftFits (heads_of drafts)) 0 drafts fits own f.draft f.placed)));
      named_once = λ m n full one other.
          let a = defined_is-some full drafts m once (named_head drafts drafts all e m full one) in
          let b = defined_is-some full drafts n once (named_head drafts drafts all e n full other) in
          some_inside m n (sym a ∙ b);
    }

-- the data of all defaults, where the nodes are finished
pub finished-with : (drafts : List Draft) (ns : List Node) → finished drafts ≡ Ok ns → (all : List (List (Option Datum))) × (all_defaults drafts drafts ≡ Some all) × (nodes_with drafts all ≡ ns)
unfolding finished
finished-with drafts ns e = at (all_defaults drafts drafts) refl e
  where
    at : (o : Option (List (List (Option Datum)))) → all_defaults drafts drafts ≡ o → ok_or (option_map (nodes_with drafts) o) BadDefault ≡ Ok ns → (all : List (List (Option Datum))) × (all_defaults drafts drafts ≡ Some all) × (nodes_with drafts all ≡ ns)
    at None is e = absurd (let wrong : ⊥ = cc in wrong)
    at (Some all) is e = (all, is, let same : nodes_with drafts all ≡ ns = cc in same)

pub walk_fits : (d : Data) (n : ℕ) (drafts : List Draft) → walk d null_namespace [] ≡ Ok (n, drafts) → Gives 0 (heads_of drafts) n × AllFrom (DraftFits (heads_of drafts)) 0 drafts
walk_fits d n drafts e = fits_alone (declares d null_namespace [] n drafts e)

-- ---- few symbols

few_from : (all : List Head) (i : ℕ) (ds : List Draft) → AllFrom (DraftFits all) i ds → HaveFewSymbols ds
few_from all i [] h = tt
few_from all i (d ∷ ds) h = (few d h.0, few_from all (suc i) ds h.1)
  where
    few : (d : Draft) → DraftFits all i d → HasFewSymbols d
    few (Whole NullNode) h = tt
    few (Whole BooleanNode) h = tt
    few (Whole IntNode) h = tt
    few (Whole LongNode) h = tt
    few (Whole BytesNode) h = tt
    few (Whole TextNode) h = tt
    few (Whole (FixedNode name size)) h = tt
    few (Whole (EnumNode name symbols default)) h = h.1
    few (Whole (ArrayNode n)) h = tt
    few (Whole (MapNode n)) h = tt
    few (Whole (UnionNode ms)) h = tt
    few (Whole (RecordNode name fs)) h = tt
    few (RecordDraft name fs) h = tt

pub from_nothing : {A : Type 0} (r : Result (A × List Draft) SchemaError) → added [] r ≡ r
from_nothing (Ok p) = refl
from_nothing (Err e) = refl

pub walked_few : (d : Data) (n : ℕ) (drafts : List Draft) → run (walk d) null_namespace [] ≡ Ok (n, drafts) → HaveFewSymbols drafts
unfolding run
walked_few d n drafts e = few_from (heads_of drafts) 0 drafts (walk_fits d n drafts (sym (from_nothing (walk d null_namespace [])) ∙ e)).1

-- ---- the nodes of a schema

-- the drafts that nodes are finished from
pub record IsFinishedFrom (d : Data) (ns : List Node) : Type 0 where
  pub root : ℕ
  pub drafts : List Draft
  pub walked : walk d null_namespace [] ≡ Ok (root, drafts)
  pub finish : finished drafts ≡ Ok ns

pub declared_at : (d : Data) (ns : List Node) (r : Result (ℕ × List Draft) SchemaError) → walk d null_namespace [] ≡ r → (r >>= λ p. finished p.1) ≡ Ok ns → IsFinishedFrom d ns
declared_at d ns (Ok p) is e = record { root = p.0; drafts = p.1; walked = is; finish = e }
declared_at d ns (Err x) is e = absurd (let wrong : ⊥ = cc in wrong)

numbers_at : (b : Bool) (d : Data) (ns : List Node) → cond b (Err BadNumber) (declared d) ≡ Ok ns → IsFinishedFrom d ns
numbers_at true d ns e = absurd (let wrong : ⊥ = cc in wrong)
numbers_at false d ns e = declared_at d ns (walk d null_namespace []) refl e

read_at : (o : Option Data) (ns : List Node) → nodes_in_read o ≡ Ok ns → (d : Data) × (o ≡ Some d) × IsFinishedFrom d ns
read_at None ns e = absurd (let wrong : ⊥ = cc in wrong)
read_at (Some d) ns e = (d, refl, numbers_at (has_float d) d ns e)

pub declared_from : (text : List ℕ) (ns : List Node) → nodes_in_read (read text) ≡ Ok ns → (d : Data) × (read text ≡ Some d) × IsFinishedFrom d ns
declared_from text ns e = read_at (read text) ns e

pub declared-well_formed : (text : List ℕ) (ns : List Node) → nodes_in_read (read text) ≡ Ok ns → IsWellFormed ns
declared-well_formed text ns e =
    let f = declared_from text ns e in
    let w = finished-with f.2.drafts ns f.2.finish in
    let h = declares f.0 null_namespace [] f.2.root f.2.drafts f.2.walked in
    let all = fits_alone h in
    subst IsWellFormed w.2 (whole_nodes f.2.drafts w.0 w.1 (omega (arith, all.0.below, length-heads_of f.2.drafts)) (omega (arith, few h (omega arith))) (once h tt) all.1)
