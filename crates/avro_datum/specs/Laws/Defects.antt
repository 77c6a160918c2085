-- The first fault of a datum: what is reported is there.
use Rattle.std.proofs.Common.{◌≡◌, ℕ, zero, suc, ◌-◌, List, drop, Option, true, false, refl, sym, subst, slice_get}
use Rattle.spec_avro.specs.declared.meter.Meter.{Meter}
use Rattle.spec_avro.specs.Node.{Node}
use Rattle.spec_avro.specs.WellFormed.{is_union}
use Rattle.spec_avro.specs.Datum.{Datum}
use Rattle.avro_datum.specs.Decoding.{Decoder, datum_at, kind_at, node_at, plain_at}
use Rattle.spec_avro.specs.FaultyDatum.{FaultyDatum, no_node}
use Rattle.avro_datum.specs.Laws.Arrays.{array_defect}
use Rattle.avro_datum.specs.Laws.Decoders.{Deeper, HasFault, IsSound}
use Rattle.avro_datum.specs.Laws.Kinds.{Group, array_group, group_of, leaf, leaf_is_kind, leaf_is_plain, leaf_no_union, map_group, none_deeper, nothing, one_deeper, record_group, union_group}
use Rattle.avro_datum.specs.Laws.Leaves.{leaf_defect}
use Rattle.avro_datum.specs.Laws.Maps.{map_defect}
use Rattle.avro_datum.specs.Laws.RecordDefects.{record_has_defect}
use Rattle.avro_datum.specs.Laws.Sound.{node_sound}
use Rattle.avro_datum.specs.Laws.Unions.{union_defect}
use Rattle.spec_decoding.specs.Decoding.{Decoding, Failed}
use Rattle.spec_avro.specs.Defect.{Need}
use Rattle.avro_bytes.specs.Fault.{HasDefect}
use Rattle.spec_avro.specs.declared.limits.TheConstants.{MOST_DEPTH}

-- a union is decoded by no decoder of what is none
union_group_none : (decoder : Decoder) (all : List ℕ) (o : Option Node) → Group o → (at : ℕ) (m : Meter) → is_union o ≡ true → plain_at decoder all o at m ≡ Failed Need
union_group_none decoder all _ nothing at m u = absurd cc
union_group_none decoder all _ (leaf n f) at m u = absurd (let none = leaf_no_union n f in cc)
union_group_none decoder all _ (array_group inner) at m u = absurd cc
union_group_none decoder all _ (map_group inner) at m u = absurd cc
union_group_none decoder all _ (union_group members) at m u = refl
union_group_none decoder all _ (record_group name fields) at m u = absurd cc

pub plain_of_union : (nodes : List Node) (all : List ℕ) (decoder : Decoder) (member at : ℕ) (m : Meter) → is_union (slice_get nodes member) ≡ true → plain_at decoder all (slice_get nodes member) at m ≡ Failed Need
plain_of_union nodes all decoder member at m u = union_group_none decoder all (slice_get nodes member) (group_of (slice_get nodes member)) at m u

module _ (nodes : List Node) (all : List ℕ) (decoder : Decoder) (left : ℕ) (sound : Deeper (IsSound nodes all decoder) left) (faulty : Deeper (HasFault nodes all decoder) left) where
  group_defect : (node : ℕ) (o : Option Node) → Group o → (at : ℕ) (m : Meter) → left ≡ MOST_DEPTH - m.depth → slice_get nodes node ≡ o → is_union o ≡ false → HasDefect (plain_at decoder all o at m) at (FaultyDatum nodes node (drop at all) m)
  group_defect node _ nothing at m l is f = no_node is
  group_defect node _ (leaf n g) at m l is f = subst (λ (x : Decoding Datum). HasDefect x at (FaultyDatum nodes node (drop at all) m)) (sym (leaf_is_plain decoder nodes all at m n g)) (leaf_defect nodes node all n at m is g)
  group_defect node _ (array_group inner) at m l is f = array_defect nodes node inner left all decoder is sound faulty at m l
  group_defect node _ (map_group inner) at m l is f = map_defect nodes node inner left all decoder is sound faulty at m l
  group_defect node _ (union_group members) at m l is f = absurd cc
  group_defect node _ (record_group name fields) at m l is f = record_has_defect left nodes all decoder node sound faulty name fields at m l is

  kind_defect : (node : ℕ) (o : Option Node) → Group o → (at : ℕ) (m : Meter) → left ≡ MOST_DEPTH - m.depth → slice_get nodes node ≡ o → HasDefect (kind_at decoder nodes all o at m) at (FaultyDatum nodes node (drop at all) m)
  kind_defect node _ nothing at m l is = no_node is
  kind_defect node _ (leaf n g) at m l is = subst (λ (x : Decoding Datum). HasDefect x at (FaultyDatum nodes node (drop at all) m)) (sym (leaf_is_kind decoder nodes all at m n g)) (leaf_defect nodes node all n at m is g)
  kind_defect node _ (array_group inner) at m l is = group_defect node _ (array_group inner) at m l is refl
  kind_defect node _ (map_group inner) at m l is = group_defect node _ (map_group inner) at m l is refl
  kind_defect node _ (record_group name fields) at m l is = group_defect node _ (record_group name fields) at m l is refl
  kind_defect node _ (union_group members) at m l is =
      union_defect nodes node left all members (λ node at m. plain_at decoder all (slice_get nodes node) at m) is (plain_of_union nodes all decoder)
      (λ member at m l f. group_defect member (slice_get nodes member) (group_of (slice_get nodes member)) at m l refl f) at m l

node_defect : (left : ℕ) (nodes : List Node) (all : List ℕ) → HasFault nodes all (node_at left nodes all) left
unfolding node_at
node_defect zero nodes all node at m l =
    kind_defect nodes all (λ node at m. Failed Need) 0 (none_deeper (IsSound nodes all (λ node at m. Failed Need))) (none_deeper (HasFault nodes all (λ node at m. Failed Need))) node (slice_get nodes node) (group_of (slice_get nodes node)) at m l refl
node_defect (suc left) nodes all node at m l =
    kind_defect nodes all (node_at left nodes all) (suc left) (one_deeper (IsSound nodes all (node_at left nodes all)) left (node_sound left nodes all)) (one_deeper (HasFault nodes all (node_at left nodes all)) left (node_defect left nodes all))
    node (slice_get nodes node) (group_of (slice_get nodes node)) at m l refl

pub datum_defect : (nodes : List Node) (all : List ℕ) (node at : ℕ) (m : Meter) → HasDefect (datum_at nodes all node at m) at (FaultyDatum nodes node (drop at all) m)
datum_defect nodes all node at m = node_defect (MOST_DEPTH - m.depth) nodes all node at m refl
