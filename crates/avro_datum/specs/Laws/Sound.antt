-- What is decoded is spelled so, and stays within the limits.
use Rattle.std.proofs.Common.{◌≡◌, ℕ, zero, suc, ◌-◌, List, Option, Some, false, refl, sym, ◌∙◌, slice_get}
use Rattle.spec_avro.specs.declared.meter.Meter.{Meter}
use Rattle.spec_avro.specs.Meter.{Counts}
use Rattle.spec_avro.specs.Node.{Node}
use Rattle.spec_avro.specs.WellFormed.{is_union}
use Rattle.spec_avro.specs.Datum.{Datum}
use Rattle.avro_datum.specs.Decoding.{Decoder, datum_at, kind_at, node_at, plain_at}
use Rattle.spec_avro.specs.Spelling.{Spells, depth_of, units_of}
use Rattle.avro_datum.specs.Laws.Arrays.{array_sound}
use Rattle.avro_datum.specs.Laws.Decoders.{Deeper, IsSound}
use Rattle.avro_datum.specs.Laws.Kinds.{Group, array_group, group_of, kind_is_plain, leaf, leaf_is_plain, leaf_no_union, map_group, none_deeper, nothing, one_deeper, record_group, union_group}
use Rattle.avro_datum.specs.Laws.Leaves.{leaf_sound}
use Rattle.avro_datum.specs.Laws.Maps.{map_sound}
use Rattle.avro_datum.specs.Laws.Records.{record_sound}
use Rattle.avro_datum.specs.Laws.Unions.{union_sound}
use Rattle.spec_decoding.specs.Decoding.{Complete, Failed}
use Rattle.avro_bytes.specs.Decoding.{Stands}
use Rattle.spec_avro.specs.Defect.{Need}
use Rattle.spec_avro.specs.declared.limits.TheConstants.{MOST_DEPTH}

module _ (nodes : List Node) (all : List ℕ) (decoder : Decoder) (left : ℕ) (deeper : Deeper (IsSound nodes all decoder) left) where
  group_sound : (node : ℕ) (o : Option Node) → Group o → (at : ℕ) (m : Meter) (d : Datum) (to : ℕ) (after : Meter) → left ≡ MOST_DEPTH - m.depth → slice_get nodes node ≡ o → plain_at decoder all o at m ≡ Complete d to after → Stands (Spells nodes node d) all at to × Counts (depth_of d) (units_of d) m after
  group_sound node _ nothing at m d to after l is e = absurd cc
  group_sound node _ (leaf n f) at m d to after l is e = leaf_sound nodes node all n at m d to after is (sym (leaf_is_plain decoder nodes all at m n f) ∙ e)
  group_sound node _ (array_group inner) at m d to after l is e = array_sound nodes node inner left all decoder is deeper at m d to after l e
  group_sound node _ (map_group inner) at m d to after l is e = map_sound nodes node inner left all decoder is deeper at m d to after l e
  group_sound node _ (union_group members) at m d to after l is e = absurd cc
  group_sound node _ (record_group name fields) at m d to after l is e = record_sound left nodes all decoder node deeper name fields at m d to after l is e

  no_union : (o : Option Node) → Group o → (at : ℕ) (m : Meter) (d : Datum) (to : ℕ) (after : Meter) → plain_at decoder all o at m ≡ Complete d to after → is_union o ≡ false
  no_union _ nothing at m d to after e = refl
  no_union _ (leaf n f) at m d to after e = leaf_no_union n f
  no_union _ (array_group inner) at m d to after e = refl
  no_union _ (map_group inner) at m d to after e = refl
  no_union _ (union_group members) at m d to after e = absurd cc
  no_union _ (record_group name fields) at m d to after e = refl

  -- what is decoded as no union is none
  pub plain_sound : IsSound nodes all (λ node at m. plain_at decoder all (slice_get nodes node) at m) left
  plain_sound node at m d to after l e = group_sound node (slice_get nodes node) (group_of (slice_get nodes node)) at m d to after l refl e

  kind_sound : (node : ℕ) (o : Option Node) → Group o → (at : ℕ) (m : Meter) (d : Datum) (to : ℕ) (after : Meter) → left ≡ MOST_DEPTH - m.depth → slice_get nodes node ≡ o → kind_at decoder nodes all o at m ≡ Complete d to after → Stands (Spells nodes node d) all at to × Counts (depth_of d) (units_of d) m after
  kind_sound node _ nothing at m d to after l is e = absurd cc
  kind_sound node _ (leaf n f) at m d to after l is e = group_sound node (Some n) (leaf n f) at m d to after l is (sym (kind_is_plain decoder nodes all at m (Some n) (leaf_no_union n f)) ∙ e)
  kind_sound node _ (array_group inner) at m d to after l is e = group_sound node _ (array_group inner) at m d to after l is e
  kind_sound node _ (map_group inner) at m d to after l is e = group_sound node _ (map_group inner) at m d to after l is e
  kind_sound node _ (record_group name fields) at m d to after l is e = group_sound node _ (record_group name fields) at m d to after l is e
  kind_sound node _ (union_group members) at m d to after l is e =
      union_sound nodes node left all members (λ node at m. plain_at decoder all (slice_get nodes node) at m) is plain_sound
      (λ member at m d to after e. no_union (slice_get nodes member) (group_of (slice_get nodes member)) at m d to after e) at m d to after l e

pub node_sound : (left : ℕ) (nodes : List Node) (all : List ℕ) → IsSound nodes all (node_at left nodes all) left
unfolding node_at
node_sound zero nodes all node at m d to after l e =
    kind_sound nodes all (λ node at m. Failed Need) 0 (none_deeper (IsSound nodes all (λ node at m. Failed Need))) node (slice_get nodes node) (group_of (slice_get nodes node)) at m d to after l refl e
node_sound (suc left) nodes all node at m d to after l e =
    kind_sound nodes all (node_at left nodes all) (suc left) (one_deeper (IsSound nodes all (node_at left nodes all)) left (node_sound left nodes all)) node (slice_get nodes node) (group_of (slice_get nodes node)) at m d to after l refl e

pub datum_sound : (nodes : List Node) (all : List ℕ) (node at : ℕ) (m : Meter) (d : Datum) (to : ℕ) (after : Meter) → datum_at nodes all node at m ≡ Complete d to after → Stands (Spells nodes node d) all at to × Counts (depth_of d) (units_of d) m after
datum_sound nodes all node at m d to after e = node_sound (MOST_DEPTH - m.depth) nodes all node at m d to after refl e
