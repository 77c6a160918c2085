-- What decoding gives at an offset, by the kind of its node.
use Rattle.std.proofs.Common.{inl, ◌≡◌, ℕ, zero, suc, ◌+◌, ◌-◌, ◌<◌, List, [], ◌∷◌, length, Option, Some, false, true, Bool, Result, Err, refl, sym, ap, ◌∙◌, arith, slice_get, subst}
use Rattle.std.specs.Prelude.{nat_le}
use Rattle.std.proofs.lemmas.Bool.{leb-false}
use Rattle.std.specs.List.{AllByRecursion}
use Rattle.spec_avro.specs.declared.malformed.MalformedKind.TheVariants.{BadBranch}
use Rattle.spec_avro.specs.declared.meter.Meter.{Meter}
use Rattle.spec_decoding.specs.declared.fault.Fault.{Fault}
use Rattle.avro_bytes.specs.Contract.{Finds}
use Rattle.spec_avro.specs.Datum.{Datum, UnionDatum}
use Rattle.spec_avro.specs.Node.{Names, Node, FieldNode, ArrayNode, MapNode, UnionNode, RecordNode}
use Rattle.spec_avro.specs.WellFormed.{IsMember, is_union}
use Rattle.avro_datum.specs.declared.parts.Parts.{Parts}
use Rattle.avro_datum.specs.declared.parts.Parts.TheVariants.{Fields, Items, Pairs}
use Rattle.avro_datum.specs.Decoding.{Decoder, IsLeaf, datum_at, kind_at, leaf_at, member_at, node_at, plain_at, record_at}
use Rattle.avro_datum.specs.ItemDecoding.{blocks_at}
use Rattle.spec_decoding.specs.PositionDecoding.{position_at}
use Rattle.avro_datum.specs.Memory.{Lacks, LeafLacks}
use Rattle.avro_datum.specs.Laws.Kinds.{kind_is_plain, leaf_is_kind}
use Rattle.spec_decoding.specs.Decoding.{Complete, Decoding, Failed, ◌>>=◌}
use Rattle.avro_bytes.specs.Decoding.{map_decoding}
use Rattle.spec_avro.specs.Defect.{Need}
use Rattle.spec_avro.specs.declared.limits.TheConstants.{MOST_DEPTH}
use Rattle.avro_datum.specs.Walking.{Failing, Walked, key_at, part, part_at, whole_of}
use Rattle.avro_datum.proofs.Lacking.{leaf_lacks, member_lacks}
use Rattle.avro_datum.proofs.Walked.{fails_found, fails_mapped, fails_then, fails_weaker, walked_as}

-- what decodes the parts of a node
abbrev below : ℕ → List Node → List ℕ → Decoder
below zero nodes bytes = λ node at m. Failed Need
below (suc left) nodes bytes = node_at left nodes bytes

-- the same, where a level is opened
abbrev pub deeper : Meter → List Node → List ℕ → Decoder
deeper m nodes bytes = node_at (MOST_DEPTH - (m.depth + 1)) nodes bytes

node_at-kind : (left : ℕ) (nodes : List Node) (bytes : List ℕ) (node at : ℕ) (m : Meter) → node_at left nodes bytes node at m ≡ kind_at (below left nodes bytes) nodes bytes (slice_get nodes node) at m
unfolding node_at
node_at-kind zero nodes bytes node at m = refl
node_at-kind (suc left) nodes bytes node at m = refl

datum_at-kind : (nodes : List Node) (bytes : List ℕ) (node at : ℕ) (m : Meter) (n : Node) → slice_get nodes node ≡ Some n → datum_at nodes bytes node at m ≡ kind_at (below (MOST_DEPTH - m.depth) nodes bytes) nodes bytes (Some n) at m
datum_at-kind nodes bytes node at m n e = node_at-kind (MOST_DEPTH - m.depth) nodes bytes node at m ∙ ap (λ (o : Option Node). kind_at (below (MOST_DEPTH - m.depth) nodes bytes) nodes bytes o at m) e

datum_at-plain : (nodes : List Node) (bytes : List ℕ) (node at : ℕ) (m : Meter) → is_union (slice_get nodes node) ≡ false → datum_at nodes bytes node at m ≡ plain_at (below (MOST_DEPTH - m.depth) nodes bytes) bytes (slice_get nodes node) at m
datum_at-plain nodes bytes node at m f = node_at-kind (MOST_DEPTH - m.depth) nodes bytes node at m ∙ kind_is_plain (below (MOST_DEPTH - m.depth) nodes bytes) nodes bytes at m (slice_get nodes node) f

below-deeper : (nodes : List Node) (bytes : List ℕ) (m : Meter) → m.depth < MOST_DEPTH → below (MOST_DEPTH - m.depth) nodes bytes ≡ deeper m nodes bytes
below-deeper nodes bytes m lt =
    let left : MOST_DEPTH - m.depth ≡ suc (MOST_DEPTH - (m.depth + 1)) = omega (arith, lt) in
    ap (λ (k : ℕ). below k nodes bytes) left

-- what is said of a datum at a depth, as the meter has it
pub at_depth : (depth : ℕ) (nodes : List Node) (bytes : List ℕ) (node at : ℕ) (m : Meter) → m.depth ≡ depth → node_at (MOST_DEPTH - depth) nodes bytes node at m ≡ datum_at nodes bytes node at m
at_depth depth nodes bytes node at m e = ap (λ (k : ℕ). node_at (MOST_DEPTH - k) nodes bytes node at m) (sym e)

pub inner_fails : (L : Type 0) (depth : ℕ) (nodes : List Node) (bytes : List ℕ) (node at : ℕ) (m : Meter) (e : Fault) → m.depth ≡ depth → Failing (L × Lacks nodes node (datum_at nodes bytes node at m)) e (datum_at nodes bytes node at m) → Failing L e (node_at (MOST_DEPTH - depth) nodes bytes node at m)
inner_fails L depth nodes bytes node at m e same h =
    subst (λ (x : Decoding Datum). Failing L e x) (sym (at_depth depth nodes bytes node at m same))
    (fails_weaker e (datum_at nodes bytes node at m) (λ (p : L × Lacks nodes node (datum_at nodes bytes node at m)). p.0) h)

-- ---- data with no others, records, arrays and maps

module _ {X : Type 0} (Sees : X → Datum → Type 0) (L : Type 0) (r : Result (X × ℕ × Meter) Fault) (nodes : List Node) (bytes : List ℕ) (node at : ℕ) (m : Meter) where
  pub leaf_walked : (n : Node) → slice_get nodes node ≡ Some n → IsLeaf n → Walked Sees (λ x. L × LeafLacks n x) r (leaf_at bytes n at m) → Walked Sees (λ x. L × Lacks nodes node x) r (datum_at nodes bytes node at m)
  leaf_walked n is l =
      let same : datum_at nodes bytes node at m ≡ leaf_at bytes n at m = datum_at-kind nodes bytes node at m n is ∙ leaf_is_kind (below (MOST_DEPTH - m.depth) nodes bytes) nodes bytes at m n l in
      walked_as Sees (λ x. L × LeafLacks n x) (λ x. L × Lacks nodes node x) r (leaf_at bytes n at m) (datum_at nodes bytes node at m) same
      (λ (p : L × LeafLacks n (leaf_at bytes n at m)). (p.0, rw (is, same) (leaf_lacks n nodes (leaf_at bytes n at m) l p.1)))

  record_same : (name : Names) (fields : List FieldNode) → slice_get nodes node ≡ Some (RecordNode name fields) → datum_at nodes bytes node at m ≡ record_at (deeper m nodes bytes) fields at m
  record_same name fields is =
      datum_at-kind nodes bytes node at m (RecordNode name fields) is ∙ inside_deeper (nat_le MOST_DEPTH m.depth) refl
    where
      inside_deeper : (b : Bool) → nat_le MOST_DEPTH m.depth ≡ b → record_at (below (MOST_DEPTH - m.depth) nodes bytes) fields at m ≡ record_at (deeper m nodes bytes) fields at m
      inside_deeper true e = rw e refl
      inside_deeper false e = ap (λ (d : Decoder). record_at d fields at m) (below-deeper nodes bytes m (leb-false MOST_DEPTH m.depth e))

  pub record_walked : (name : Names) (fields : List FieldNode) → slice_get nodes node ≡ Some (RecordNode name fields) → Walked Sees (λ x. L) r (record_at (deeper m nodes bytes) fields at m) → Walked Sees (λ x. L × Lacks nodes node x) r (datum_at nodes bytes node at m)
  record_walked name fields is =
      walked_as Sees (λ x. L) (λ x. L × Lacks nodes node x) r (record_at (deeper m nodes bytes) fields at m) (datum_at nodes bytes node at m) (record_same name fields is) (λ (l : L). (l, rw is tt))

  blocks_deeper : (p : Parts) (inner : ℕ) (b : Bool) → nat_le MOST_DEPTH m.depth ≡ b → blocks_at (part_at p (below (MOST_DEPTH - m.depth) nodes bytes) bytes inner) bytes at m ≡ blocks_at (part_at p (deeper m nodes bytes) bytes inner) bytes at m
  blocks_deeper p inner true e = rw e refl
  blocks_deeper p inner false e = ap (λ (d : Decoder). blocks_at (part_at p d bytes inner) bytes at m) (below-deeper nodes bytes m (leb-false MOST_DEPTH m.depth e))

  blocks_walked : (p : Parts) (inner : ℕ) → datum_at nodes bytes node at m ≡ map_decoding (whole_of p) (blocks_at (part_at p (below (MOST_DEPTH - m.depth) nodes bytes) bytes inner) bytes at m)
      → ((x : Decoding Datum) → Lacks nodes node x) → Walked Sees (λ x. L) r (map_decoding (whole_of p) (blocks_at (part_at p (deeper m nodes bytes) bytes inner) bytes at m)) → Walked Sees (λ x. L × Lacks nodes node x) r (datum_at nodes bytes node at m)
  blocks_walked p inner e lacks =
      walked_as Sees (λ x. L) (λ x. L × Lacks nodes node x) r (map_decoding (whole_of p) (blocks_at (part_at p (deeper m nodes bytes) bytes inner) bytes at m)) (datum_at nodes bytes node at m)
      (e ∙ ap (map_decoding (whole_of p)) (blocks_deeper p inner (nat_le MOST_DEPTH m.depth) refl)) (λ (l : L). (l, lacks (datum_at nodes bytes node at m)))

  pub array_walked : (inner : ℕ) → slice_get nodes node ≡ Some (ArrayNode inner) → Walked Sees (λ x. L) r (map_decoding (whole_of Items) (blocks_at (part_at Items (deeper m nodes bytes) bytes inner) bytes at m)) → Walked Sees (λ x. L × Lacks nodes node x) r (datum_at nodes bytes node at m)
  array_walked inner is = blocks_walked Items inner (datum_at-kind nodes bytes node at m (ArrayNode inner) is) (λ x. rw is tt)

  pub map_walked : (inner : ℕ) → slice_get nodes node ≡ Some (MapNode inner) → Walked Sees (λ x. L) r (map_decoding (whole_of Pairs) (blocks_at (part_at Pairs (deeper m nodes bytes) bytes inner) bytes at m)) → Walked Sees (λ x. L × Lacks nodes node x) r (datum_at nodes bytes node at m)
  map_walked inner is = blocks_walked Pairs inner (datum_at-kind nodes bytes node at m (MapNode inner) is) (λ x. rw is tt)

-- ---- a part: its key, and its datum

keyless : (x : Decoding Datum) → x ≡ map_decoding (λ d. d) x
keyless (Complete d to m) = refl
keyless (Failed d) = refl

part_is : (p : Parts) (decoder : Decoder) (bytes : List ℕ) (inner at : ℕ) (m : Meter) → part_at p decoder bytes inner at m ≡ (key_at p bytes at m >>= λ key to after. map_decoding (part p key) (decoder inner to after))
part_is Fields decoder bytes inner at m = keyless (decoder inner at m)
part_is Items decoder bytes inner at m = keyless (decoder inner at m)
part_is Pairs decoder bytes inner at m = refl

module _ (p : Parts) (decoder : Decoder) (bytes : List ℕ) (inner at : ℕ) (m : Meter) where
  pub key_fails : (L : Type 0) (e : Fault) → Failing L e (key_at p bytes at m) → Failing L e (part_at p decoder bytes inner at m)
  key_fails L e h = rw (part_is p decoder bytes inner at m) (fails_then L (λ key to after. map_decoding (part p key) (decoder inner to after)) e (key_at p bytes at m) h)

  module _ (k : List ℕ) (to : ℕ) (after : Meter) (key : key_at p bytes at m ≡ Complete k to after) where
    keyed : part_at p decoder bytes inner at m ≡ map_decoding (part p k) (decoder inner to after)
    keyed = part_is p decoder bytes inner at m ∙ ap (λ (x : Decoding (List ℕ)). x >>= λ key to after. map_decoding (part p key) (decoder inner to after)) key

    pub datum_fails : (L : Type 0) (e : Fault) → Failing L e (decoder inner to after) → Failing L e (part_at p decoder bytes inner at m)
    datum_fails L e h = rw keyed (fails_mapped L (part p k) e (decoder inner to after) h)

    pub part_ends : (d : Datum) (end : ℕ) (last : Meter) → decoder inner to after ≡ Complete d end last → part_at p decoder bytes inner at m ≡ Complete (part p k d) end last
    part_ends d end last e = keyed ∙ ap (map_decoding (part p k)) e

-- ---- unions

pub member_of : (nodes : List Node) (own : ℕ) (members : List ℕ) (n member : ℕ) → AllByRecursion (IsMember nodes own) members → slice_get members n ≡ Some member → IsMember nodes own member
member_of nodes own [] n member all e = absurd cc
member_of nodes own (k ∷ members) zero member all e = let same : k ≡ member = cc in subst (IsMember nodes own) same all.0
member_of nodes own (k ∷ members) (suc n) member all e = member_of nodes own members n member all.1 e

-- the branch at a position, and its datum
abbrev branch_at : List Node → List ℕ → Meter → List ℕ → ℕ → ℕ → Meter → Decoding Datum
branch_at nodes bytes m members n to after = map_decoding (UnionDatum n) (member_at (λ node at m'. plain_at (below (MOST_DEPTH - m.depth) nodes bytes) bytes (slice_get nodes node) at m') (slice_get members n) to after)

module _ (nodes : List Node) (bytes : List ℕ) (node at : ℕ) (m : Meter) (members : List ℕ) (many : ℕ) (is : slice_get nodes node ≡ Some (UnionNode members)) (len : many ≡ length members) where
  union_here : datum_at nodes bytes node at m ≡ (position_at BadBranch many bytes at m >>= branch_at nodes bytes m members)
  union_here = rw len (datum_at-kind nodes bytes node at m (UnionNode members) is)

  pub position_fails : (L : Type 0) (e : Fault) → Finds {X = ℕ} (λ n. n) (Err e) (position_at BadBranch many bytes at m) → Failing (L × Lacks nodes node (datum_at nodes bytes node at m)) e (datum_at nodes bytes node at m)
  position_fails L e h =
      let found : Failing ⊥ e (position_at BadBranch many bytes at m) = fails_found ⊥ (λ n. n) e (position_at BadBranch many bytes at m) h in
      fails_weaker e (datum_at nodes bytes node at m) (λ (no : ⊥). absurd no) (rw union_here (fails_then ⊥ (branch_at nodes bytes m members) e (position_at BadBranch many bytes at m) found))

  module _ (n to member : ℕ) (after : Meter) (read : position_at BadBranch many bytes at m ≡ Complete n to after) (got : slice_get members n ≡ Some member) (same : after.depth ≡ m.depth) (all : AllByRecursion (IsMember nodes node) members) where
    member_here : datum_at nodes bytes node at m ≡ map_decoding (UnionDatum n) (datum_at nodes bytes member to after)
    member_here =
        let plain : datum_at nodes bytes member to after ≡ plain_at (below (MOST_DEPTH - m.depth) nodes bytes) bytes (slice_get nodes member) to after =
        datum_at-plain nodes bytes member to after (member_of nodes node members n member all got).no_union ∙ ap (λ (k : ℕ). plain_at (below (MOST_DEPTH - k) nodes bytes) bytes (slice_get nodes member) to after) same in
        union_here ∙ ap (λ x. x >>= branch_at nodes bytes m members) read
        ∙ ap (λ (o : Option ℕ). map_decoding (UnionDatum n) (member_at (λ node at m'. plain_at (below (MOST_DEPTH - m.depth) nodes bytes) bytes (slice_get nodes node) at m') o to after)) got
        ∙ ap (map_decoding (UnionDatum n)) (sym plain)

    pub member_fails : (L : Type 0) (e : Fault) → Failing (L × Lacks nodes member (datum_at nodes bytes member to after)) e (datum_at nodes bytes member to after) → Failing (L × Lacks nodes node (datum_at nodes bytes node at m)) e (datum_at nodes bytes node at m)
    member_fails L e h =
        let M : Type 0 = L × Lacks nodes member (datum_at nodes bytes member to after) in
        let lacks : M → L × Lacks nodes node (datum_at nodes bytes node at m) = λ (p : M). (p.0, rw (member_here, is) (member_lacks (slice_get nodes member) nodes members n member (datum_at nodes bytes member to after) got refl (member_of nodes node members n member all got).no_union p.1)) in
        fails_weaker e (datum_at nodes bytes node at m) lacks (subst (λ (x : Decoding Datum). Failing M e x) (sym member_here) (fails_mapped M (UnionDatum n) e (datum_at nodes bytes member to after) h))

    pub box_fails : (d : Datum) (end : ℕ) (last : Meter) → datum_at nodes bytes member to after ≡ Complete d end last → Lacks nodes node (datum_at nodes bytes node at m)
    box_fails d end last e = rw (is, member_here, e) (inl tt)

    pub member_ends : (d : Datum) (end : ℕ) (last : Meter) → datum_at nodes bytes member to after ≡ Complete d end last → datum_at nodes bytes node at m ≡ Complete (UnionDatum n d) end last
    member_ends d end last e = member_here ∙ ap (map_decoding (UnionDatum n)) e
