-- What is spelled within the limits is decoded, whatever comes before and after it.
use Rattle.std.proofs.Common.{◌≡◌, ℕ, zero, suc, ◌+◌, ◌-◌, List, ◌++◌, length, Option, Some, false, refl, sym, ap, subst, ◌∙◌, arith, slice_get}
use Rattle.spec_avro.specs.declared.malformed.MalformedKind.TheVariants.{BadEnum}
use Rattle.spec_avro.specs.declared.meter.Meter.{Meter}
use Rattle.avro_bytes.specs.Blob.{fixed_at, content_at}
use Rattle.spec_decoding.specs.BooleanDecoding.{boolean_at}
use Rattle.spec_avro.specs.Meter.{Counts}
use Rattle.spec_avro.specs.Number.{int_limit, long_limit}
use Rattle.spec_decoding.specs.NumberDecoding.{number_at}
use Rattle.avro_bytes.specs.Text.{text_at}
use Rattle.avro_bytes.specs.Laws.Blobs.{blob_complete}
use Rattle.avro_bytes.specs.Laws.Booleans.{boolean_complete}
use Rattle.avro_bytes.specs.Laws.Fixeds.{fixed_complete}
use Rattle.avro_bytes.specs.Laws.Numbers.{number_complete}
use Rattle.avro_bytes.specs.Laws.Texts.{text_complete}
use Rattle.spec_avro.specs.Node.{Node, NullNode, BooleanNode, IntNode, LongNode, BytesNode, TextNode, FixedNode, EnumNode, ArrayNode, MapNode, UnionNode, RecordNode}
use Rattle.spec_avro.specs.WellFormed.{is_union}
use Rattle.spec_avro.specs.Datum.{Datum, NullDatum, BooleanDatum, IntDatum, LongDatum, BytesDatum, TextDatum, FixedDatum, EnumDatum, ArrayDatum, MapDatum, UnionDatum, RecordDatum}
use Rattle.avro_datum.specs.Decoding.{Decoder, datum_at, kind_at, node_at, plain_at}
use Rattle.spec_decoding.specs.PositionDecoding.{position_at}
use Rattle.spec_avro.specs.Spelling.{Spells, depth_of, units_of}
use Rattle.avro_datum.specs.Laws.Arrays.{array_complete, spell_each}
use Rattle.avro_datum.specs.Laws.Decoders.{Deeper, IsComplete}
use Rattle.avro_datum.specs.Laws.Kinds.{Group, array_group, group_of, kind_is_plain, leaf, leaf_no_union, map_group, none_deeper, nothing, one_deeper, record_group, union_group}
use Rattle.avro_datum.specs.Laws.Maps.{map_complete, spell_pairs}
use Rattle.avro_datum.specs.Laws.Parts.{counts_nothing}
use Rattle.avro_bytes.specs.Laws.Positions.{position_again}
use Rattle.avro_datum.specs.Laws.Records.{record_complete}
use Rattle.avro_datum.specs.Laws.Unions.{union_complete}
use Rattle.spec_decoding.specs.Decoding.{Complete, Failed}
use Rattle.avro_bytes.specs.Decoding.{map_decoding}
use Rattle.spec_avro.specs.Defect.{Need}
use Rattle.spec_avro.specs.declared.limits.TheConstants.{MOST_DEPTH}

module _ (nodes : List Node) (all : List ℕ) (decoder : Decoder) (left : ℕ) (deeper : Deeper (IsComplete nodes all decoder) left) where
  at_plain : (node at : ℕ) (m : Meter) (o : Option Node) → slice_get nodes node ≡ o → plain_at decoder all (slice_get nodes node) at m ≡ plain_at decoder all o at m
  at_plain node at m o e = ap (λ (o : Option Node). plain_at decoder all o at m) e

  -- a datum that is no union's
  plain_complete : (node : ℕ) (d : Datum) (before bytes rest : List ℕ) (m after : Meter) → left ≡ MOST_DEPTH - m.depth → all ≡ before ++ (bytes ++ rest) → is_union (slice_get nodes node) ≡ false → Spells nodes node d bytes → Counts (depth_of d) (units_of d) m after → plain_at decoder all (slice_get nodes node) (length before) m ≡ Complete d (length before + length bytes) after
  plain_complete node NullDatum before bytes rest m after l is f s t =
      at_plain node (length before) m (Some NullNode) s.0 ∙ ap (λ (k : ℕ). Complete NullDatum k m) (let e : length before ≡ length before + length bytes = omega (arith, ap length s.1) in e) ∙ ap (Complete NullDatum (length before + length bytes)) (counts_nothing m after t)
  plain_complete node (BooleanDatum b) before bytes rest m after l is f s t =
      at_plain node (length before) m (Some BooleanNode) s.0 ∙ ap (λ (x : List ℕ). map_decoding BooleanDatum (boolean_at x (length before) m)) is ∙ ap (map_decoding BooleanDatum) (boolean_complete before bytes rest b m after s.1 (counts_nothing m after t))
  plain_complete node (IntDatum n) before bytes rest m after l is f s t =
      at_plain node (length before) m (Some IntNode) s.0 ∙ ap (λ (x : List ℕ). map_decoding IntDatum (number_at int_limit x (length before) m)) is ∙ ap (map_decoding IntDatum) (number_complete int_limit before bytes rest n m after s.1 (counts_nothing m after t))
  plain_complete node (LongDatum n) before bytes rest m after l is f s t =
      at_plain node (length before) m (Some LongNode) s.0 ∙ ap (λ (x : List ℕ). map_decoding LongDatum (number_at long_limit x (length before) m)) is ∙ ap (map_decoding LongDatum) (number_complete long_limit before bytes rest n m after s.1 (counts_nothing m after t))
  plain_complete node (BytesDatum v) before bytes rest m after l is f s t =
      at_plain node (length before) m (Some BytesNode) s.0 ∙ ap (λ (x : List ℕ). map_decoding BytesDatum (content_at x (length before) m)) is ∙ ap (map_decoding BytesDatum) (blob_complete before bytes rest v m after s.1 (counts_nothing m after t))
  plain_complete node (TextDatum v) before bytes rest m after l is f s t =
      at_plain node (length before) m (Some TextNode) s.0 ∙ ap (λ (x : List ℕ). map_decoding TextDatum (text_at x (length before) m)) is ∙ ap (map_decoding TextDatum) (text_complete before bytes rest v m after s.1 (counts_nothing m after t))
  plain_complete node (FixedDatum v) before bytes rest m after l is f s t =
      at_plain node (length before) m (Some (FixedNode s.0 s.1)) s.2 ∙ ap (λ (x : List ℕ). map_decoding FixedDatum (fixed_at s.1 x (length before) m)) is ∙ ap (map_decoding FixedDatum) (fixed_complete s.1 before bytes rest v m after s.3 (counts_nothing m after t))
  plain_complete node (EnumDatum n) before bytes rest m after l is f s t =
      at_plain node (length before) m (Some (EnumNode s.0 s.1 s.2)) s.3 ∙ ap (λ (x : List ℕ). map_decoding EnumDatum (position_at BadEnum (length s.1) x (length before) m)) is ∙ ap (map_decoding EnumDatum) (position_again BadEnum (length s.1) before bytes rest n m s.4)
      ∙ ap (Complete (EnumDatum n) (length before + length bytes)) (counts_nothing m after t)
  plain_complete node (ArrayDatum ds) before bytes rest m after l is f s t =
      at_plain node (length before) m (Some (ArrayNode s.0)) s.1 ∙ array_complete nodes node s.0 left all decoder s.1 deeper ds before bytes rest m after l is (s.2, s.3, spell_each nodes s.0 ds s.2 s.4) t
  plain_complete node (MapDatum ps) before bytes rest m after l is f s t =
      at_plain node (length before) m (Some (MapNode s.0)) s.1 ∙ map_complete nodes node s.0 left all decoder s.1 deeper ps before bytes rest m after l is (s.2, s.3, spell_pairs nodes s.0 ps s.2 s.4) t
  plain_complete node (UnionDatum n d) before bytes rest m after l is f s t = absurd (let u = ap is_union s.1 in cc)
  plain_complete node (RecordDatum ds) before bytes rest m after l is f s t =
      at_plain node (length before) m (Some (RecordNode s.0 s.1)) s.2 ∙ record_complete left nodes all decoder deeper s.1 ds before bytes rest m after l is s.3 t

  -- a datum of a union's node is a union's
  of_union : (node : ℕ) (members : List ℕ) (d : Datum) (bytes : List ℕ) → slice_get nodes node ≡ Some (UnionNode members) → Spells nodes node d bytes → (n : ℕ) × (inner : Datum) × (d ≡ UnionDatum n inner)
  of_union node members (UnionDatum n d) bytes is s = (n, d, refl)
  of_union node members _ bytes is s = absurd cc

  not_union : (node : ℕ) (d : Datum) (before bytes rest : List ℕ) (m after : Meter) → left ≡ MOST_DEPTH - m.depth → all ≡ before ++ (bytes ++ rest) → is_union (slice_get nodes node) ≡ false → Spells nodes node d bytes → Counts (depth_of d) (units_of d) m after → kind_at decoder nodes all (slice_get nodes node) (length before) m ≡ Complete d (length before + length bytes) after
  not_union node d before bytes rest m after l e f s t = kind_is_plain decoder nodes all (length before) m (slice_get nodes node) f ∙ plain_complete node d before bytes rest m after l e f s t

  union_datum : (node n : ℕ) (d : Datum) (before bytes rest : List ℕ) (m after : Meter) → left ≡ MOST_DEPTH - m.depth → all ≡ before ++ (bytes ++ rest) → Spells nodes node (UnionDatum n d) bytes → Counts (depth_of d) (units_of d) m after → kind_at decoder nodes all (slice_get nodes node) (length before) m ≡ Complete (UnionDatum n d) (length before + length bytes) after
  union_datum node n d before bytes rest m after l e s t =
      ap (λ (o : Option Node). kind_at decoder nodes all o (length before) m) s.1
      ∙ union_complete nodes node left all s.0 (λ node at m. plain_at decoder all (slice_get nodes node) at m) s.1 n s.2 d before s.5 s.6 rest m after (e ∙ ap (λ (b : List ℕ). before ++ (b ++ rest)) s.7) s.8 s.3
      (λ before bytes rest e k. plain_complete s.2 d before bytes rest m after l e s.4 k t) s.9
      ∙ ap (λ (b : List ℕ). Complete (UnionDatum n d) (length before + length b) after) (sym s.7)

  kind_complete : (node : ℕ) (o : Option Node) → Group o → (d : Datum) (before bytes rest : List ℕ) (m after : Meter) → left ≡ MOST_DEPTH - m.depth → all ≡ before ++ (bytes ++ rest) → slice_get nodes node ≡ o → Spells nodes node d bytes → Counts (depth_of d) (units_of d) m after → kind_at decoder nodes all (slice_get nodes node) (length before) m ≡ Complete d (length before + length bytes) after
  kind_complete node _ nothing d before bytes rest m after l e is s t = not_union node d before bytes rest m after l e (ap is_union is) s t
  kind_complete node _ (leaf n f) d before bytes rest m after l e is s t = not_union node d before bytes rest m after l e (ap is_union is ∙ leaf_no_union n f) s t
  kind_complete node _ (array_group inner) d before bytes rest m after l e is s t = not_union node d before bytes rest m after l e (ap is_union is) s t
  kind_complete node _ (map_group inner) d before bytes rest m after l e is s t = not_union node d before bytes rest m after l e (ap is_union is) s t
  kind_complete node _ (record_group name fields) d before bytes rest m after l e is s t = not_union node d before bytes rest m after l e (ap is_union is) s t
  kind_complete node _ (union_group members) d before bytes rest m after l e is s t =
      let u = of_union node members d bytes is s in
      subst (λ (x : Datum). kind_at decoder nodes all (slice_get nodes node) (length before) m ≡ Complete x (length before + length bytes) after) (sym u.2)
      (union_datum node u.0 u.1 before bytes rest m after l e (subst (λ (x : Datum). Spells nodes node x bytes) u.2 s) (subst (λ (x : Datum). Counts (depth_of x) (units_of x) m after) u.2 t))

pub node_complete : (left : ℕ) (nodes : List Node) (all : List ℕ) → IsComplete nodes all (node_at left nodes all) left
unfolding node_at
node_complete zero nodes all node d before bytes rest m after l is s t =
    kind_complete nodes all (λ node at m. Failed Need) 0 (none_deeper (IsComplete nodes all (λ node at m. Failed Need))) node (slice_get nodes node) (group_of (slice_get nodes node)) d before bytes rest m after l is refl s t
node_complete (suc left) nodes all node d before bytes rest m after l is s t =
    kind_complete nodes all (node_at left nodes all) (suc left) (one_deeper (IsComplete nodes all (node_at left nodes all)) left (node_complete left nodes all)) node (slice_get nodes node) (group_of (slice_get nodes node)) d before bytes rest m after l is refl s t

pub datum_complete : (nodes : List Node) (node : ℕ) (before bytes rest : List ℕ) (m : Meter) (d : Datum) (after : Meter) → Spells nodes node d bytes → Counts (depth_of d) (units_of d) m after → datum_at nodes (before ++ (bytes ++ rest)) node (length before) m ≡ Complete d (length before + length bytes) after
datum_complete nodes node before bytes rest m d after s t = node_complete (MOST_DEPTH - m.depth) nodes (before ++ (bytes ++ rest)) node d before bytes rest m after refl refl s t
