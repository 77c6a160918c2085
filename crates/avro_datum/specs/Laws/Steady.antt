-- What is decided stays so when more bytes come.
use Rattle.std.proofs.Common.{◌≡◌, ◌≢◌, ℕ, zero, suc, ◌-◌, ◌≤◌, List, ◌++◌, length, Option, Some, refl, sym, ◌∙◌, slice_get}
use Rattle.spec_avro.specs.declared.meter.Meter.{Meter}
use Rattle.spec_avro.specs.Node.{Node}
use Rattle.spec_avro.specs.Datum.{Datum}
use Rattle.avro_datum.specs.Decoding.{Decoder, datum_at, kind_at, leaf_at, node_at, plain_at}
use Rattle.avro_datum.specs.Laws.Arrays.{array_steady}
use Rattle.avro_datum.specs.Laws.Decoders.{Deeper, IsSound, IsSteady}
use Rattle.avro_datum.specs.Laws.Kinds.{Group, array_group, group_of, leaf, leaf_is_kind, leaf_is_plain, map_group, none_deeper, nothing, one_deeper, record_group, union_group}
use Rattle.avro_datum.specs.Laws.Leaves.{leaf_steady}
use Rattle.avro_datum.specs.Laws.Maps.{map_is_steady}
use Rattle.avro_datum.specs.Laws.Records.{record_steady}
use Rattle.avro_datum.specs.Laws.Sound.{node_sound}
use Rattle.avro_datum.specs.Laws.Unions.{union_steady}
use Rattle.spec_decoding.specs.Decoding.{Decoding, Failed}
use Rattle.spec_avro.specs.Defect.{Need}
use Rattle.spec_avro.specs.declared.limits.TheConstants.{MOST_DEPTH}

-- what is a leaf's
as_leaf : (x y further decoding : Decoding Datum) → decoding ≡ x → further ≡ y → (x ≢ Failed Need → y ≡ x) → decoding ≢ Failed Need → further ≡ decoding
as_leaf x y further decoding e f h c = f ∙ h (λ k. c (e ∙ k)) ∙ sym e

module _ (nodes : List Node) (all others : List ℕ) (decoder further : Decoder) (left : ℕ) (sound : Deeper (IsSound nodes all decoder) left) (steady : Deeper (IsSteady all decoder further) left) where
  group_steady : (node : ℕ) (o : Option Node) → Group o → (at : ℕ) (m : Meter) → slice_get nodes node ≡ o → left ≡ MOST_DEPTH - m.depth → at ≤ length all → plain_at decoder all o at m ≢ Failed Need → plain_at further (all ++ others) o at m ≡ plain_at decoder all o at m
  group_steady node _ nothing at m is l le c = refl
  group_steady node _ (leaf n f) at m is l le c = as_leaf (leaf_at all n at m) (leaf_at (all ++ others) n at m) (plain_at further (all ++ others) (Some n) at m) (plain_at decoder all (Some n) at m) (leaf_is_plain decoder nodes all at m n f) (leaf_is_plain further nodes (all ++ others) at m n f) (leaf_steady all others n at m le) c
  group_steady node _ (array_group inner) at m is l le c = array_steady nodes node inner left all decoder is others further sound steady at m l le c
  group_steady node _ (map_group inner) at m is l le c = map_is_steady nodes node inner left all decoder is others further sound steady at m l le c
  group_steady node _ (union_group members) at m is l le c = refl
  group_steady node _ (record_group name fields) at m is l le c = record_steady left nodes all decoder further sound steady fields at m l le c

  plain_steady : IsSteady all (λ node at m. plain_at decoder all (slice_get nodes node) at m) (λ node at m. plain_at further (all ++ others) (slice_get nodes node) at m) left
  plain_steady node at m l le c = group_steady node (slice_get nodes node) (group_of (slice_get nodes node)) at m refl l le c

  kind_steady : (node : ℕ) (o : Option Node) → Group o → (at : ℕ) (m : Meter) → slice_get nodes node ≡ o → left ≡ MOST_DEPTH - m.depth → at ≤ length all → kind_at decoder nodes all o at m ≢ Failed Need → kind_at further nodes (all ++ others) o at m ≡ kind_at decoder nodes all o at m
  kind_steady node _ nothing at m is l le c = refl
  kind_steady node _ (leaf n f) at m is l le c = as_leaf (leaf_at all n at m) (leaf_at (all ++ others) n at m) (kind_at further nodes (all ++ others) (Some n) at m) (kind_at decoder nodes all (Some n) at m) (leaf_is_kind decoder nodes all at m n f) (leaf_is_kind further nodes (all ++ others) at m n f) (leaf_steady all others n at m le) c
  kind_steady node _ (array_group inner) at m is l le c = group_steady node _ (array_group inner) at m is l le c
  kind_steady node _ (map_group inner) at m is l le c = group_steady node _ (map_group inner) at m is l le c
  kind_steady node _ (record_group name fields) at m is l le c = group_steady node _ (record_group name fields) at m is l le c
  kind_steady node _ (union_group members) at m is l le c =
      union_steady nodes node left all members (λ node at m. plain_at decoder all (slice_get nodes node) at m) is others (λ node at m. plain_at further (all ++ others) (slice_get nodes node) at m) plain_steady at m l le c

pub node_steady : (left : ℕ) (nodes : List Node) (all others : List ℕ) → IsSteady all (node_at left nodes all) (node_at left nodes (all ++ others)) left
unfolding node_at
node_steady zero nodes all others node at m l le c =
    kind_steady nodes all others (λ node at m. Failed Need) (λ node at m. Failed Need) 0 (none_deeper (IsSound nodes all (λ node at m. Failed Need))) (none_deeper (IsSteady all (λ node at m. Failed Need) (λ node at m. Failed Need))) node (slice_get nodes node) (group_of (slice_get nodes node)) at m refl l le c
node_steady (suc left) nodes all others node at m l le c =
    kind_steady nodes all others (node_at left nodes all) (node_at left nodes (all ++ others)) (suc left) (one_deeper (IsSound nodes all (node_at left nodes all)) left (node_sound left nodes all))
    (one_deeper (IsSteady all (node_at left nodes all) (node_at left nodes (all ++ others))) left (node_steady left nodes all others)) node (slice_get nodes node) (group_of (slice_get nodes node)) at m refl l le c

pub datum_steady : (nodes : List Node) (all others : List ℕ) (node at : ℕ) (m : Meter) → at ≤ length all → datum_at nodes all node at m ≢ Failed Need → datum_at nodes (all ++ others) node at m ≡ datum_at nodes all node at m
datum_steady nodes all others node at m le c = node_steady (MOST_DEPTH - m.depth) nodes all others node at m refl le c
