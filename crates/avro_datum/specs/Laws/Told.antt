-- The first fault of a datum: what is there is reported.
use Rattle.std.proofs.Common.{◌≡◌, ℕ, zero, suc, ◌+◌, ◌-◌, ◌<◌, List, ◌++◌, length, Option, Some, None, false, refl, sym, ap, subst, ◌∙◌, append_assoc, arith, slice_get}
use Rattle.std.proofs.lemmas.List.{length-append}
use Rattle.spec_avro.specs.declared.malformed.MalformedKind.TheVariants.{BadEnum}
use Rattle.spec_avro.specs.declared.meter.Meter.{Meter}
use Rattle.avro_bytes.specs.Blob.{fixed_at, content_at}
use Rattle.spec_decoding.specs.BooleanDecoding.{boolean_at}
use Rattle.spec_decoding.specs.Walk.{first_walk}
use Rattle.spec_avro.specs.Number.{int_limit, long_limit}
use Rattle.spec_decoding.specs.NumberDecoding.{number_at}
use Rattle.spec_avro.specs.Text.{IsText}
use Rattle.avro_bytes.specs.Text.{text_at}
use Rattle.avro_bytes.specs.Laws.Binds.{failing_map, failing_shifted, failing_then}
use Rattle.avro_bytes.specs.Laws.Booleans.{boolean_told}
use Rattle.avro_bytes.specs.Laws.Defects.{number_told}
use Rattle.avro_bytes.specs.Laws.Fixeds.{fixed_told}
use Rattle.avro_bytes.specs.Laws.Meters.{blocks_refused_told, refused_told}
use Rattle.avro_bytes.specs.Laws.TextDefects.{text_told}
use Rattle.avro_bytes.specs.Laws.Texts.{text_complete}
use Rattle.spec_avro.specs.Node.{Node, FixedNode, EnumNode, ArrayNode, MapNode, UnionNode, RecordNode}
use Rattle.spec_avro.specs.WellFormed.{is_union}
use Rattle.spec_avro.specs.Datum.{Datum, BooleanDatum, IntDatum, LongDatum, BytesDatum, TextDatum, FixedDatum, EnumDatum}
use Rattle.avro_datum.specs.Decoding.{Decoder, array_of, closed_record, datum_at, fields_at, kind_at, map_of, node_at, pair_at, plain_at}
use Rattle.spec_avro.specs.FaultyDatum.{FaultyDatum, FaultyKind, faulty, faulty_boolean, faulty_int, faulty_long, faulty_bytes, faulty_text, faulty_fixed, faulty_enum, faulty_branch, faulty_member, refused_array, refused_map, faulty_array, faulty_item, faulty_map, faulty_key, faulty_value, refused_record, faulty_record, no_node, no_member}
use Rattle.avro_datum.specs.ItemDecoding.{items_at, steps_left}
use Rattle.spec_decoding.specs.PositionDecoding.{position_at}
use Rattle.avro_datum.specs.Laws.Arrays.{array_told, item_told}
use Rattle.avro_datum.specs.Laws.Complete.{node_complete}
use Rattle.avro_datum.specs.Laws.Decoders.{Deeper, IsComplete, TellsFault}
use Rattle.avro_datum.specs.Laws.Defects.{plain_of_union}
use Rattle.avro_datum.specs.Laws.Kinds.{Group, array_group, group_of, kind_is_plain, leaf, leaf_no_union, map_group, none_deeper, nothing, one_deeper, record_group, union_group}
use Rattle.avro_datum.specs.Laws.Maps.{map_told, pair_told}
use Rattle.avro_bytes.specs.Laws.Positions.{position_told}
use Rattle.avro_datum.specs.Laws.RecordDefects.{record_told}
use Rattle.avro_datum.specs.Laws.Unions.{branch_told, member_told, no_member_told}
use Rattle.spec_decoding.specs.Decoding.{Complete, Decoding, Failed, ◌>>=◌}
use Rattle.avro_bytes.specs.Decoding.{map_decoding}
use Rattle.spec_avro.specs.Defect.{Defect, Need}
use Rattle.spec_avro.specs.Fault.{FaultyText, shifted}
use Rattle.avro_bytes.specs.Fault.{failing}
use Rattle.spec_avro.specs.declared.limits.TheConstants.{MOST_DEPTH}
use Rattle.avro_bytes.specs.Laws.BlobDefects.{content_told}

some_kind : {kind : Node} {members : List ℕ} → Some kind ≡ Some (UnionNode members) → UnionNode members ≡ kind
some_kind e = cc

module _ (nodes : List Node) (all : List ℕ) (decoder : Decoder) (left : ℕ) (complete : Deeper (IsComplete nodes all decoder) left) (tells : Deeper (TellsFault nodes all decoder) left) where
  at_plain : (node at : ℕ) (m : Meter) (o : Option Node) → slice_get nodes node ≡ o → plain_at decoder all (slice_get nodes node) at m ≡ plain_at decoder all o at m
  at_plain node at m o e = ap (λ (o : Option Node). plain_at decoder all o at m) e

  -- a form's fault, of a kind that holds no others
  form_told : {A : Type 0} (f : A → Datum) (form : List ℕ → ℕ → Meter → Decoding A) (before bytes : List ℕ) (m : Meter) (d : Defect) → all ≡ before ++ bytes → form (before ++ bytes) (length before) m ≡ failing (length before) d → map_decoding f (form all (length before) m) ≡ failing (length before) d
  form_told f form before bytes m d is e = ap (λ (b : List ℕ). map_decoding f (form b (length before) m)) is ∙ ap (map_decoding f) e ∙ failing_map (length before) d f

  -- a datum after the bytes `front`
  further_told : (inner : ℕ) (before bytes front rest : List ℕ) (m opened : Meter) (further : Defect) → left ≡ MOST_DEPTH - m.depth → all ≡ before ++ bytes → bytes ≡ front ++ rest → m.depth < MOST_DEPTH → opened.depth ≡ m.depth + 1 → FaultyDatum nodes inner rest opened further
      → decoder inner (length before + length front) opened ≡ failing (length before + length front) further
  further_told inner before bytes front rest m opened further l is parts shallow deeper h =
      let is1 : all ≡ (before ++ front) ++ rest = is ∙ ap (λ (b : List ℕ). before ++ b) parts ∙ sym (append_assoc before front rest) in
      subst (λ (k : ℕ). decoder inner k opened ≡ failing k further) (length-append before front) (tells (MOST_DEPTH - suc m.depth) (omega (arith, l, shallow)) inner (before ++ front) rest opened further (omega (arith, deeper)) is1 h)

  key_told : (inner : ℕ) (before bytes front rest : List ℕ) (opened : Meter) (further : Defect) → all ≡ before ++ bytes → bytes ≡ front ++ rest → FaultyText rest further → pair_at decoder all inner (length before + length front) opened ≡ failing (length before + length front) further
  key_told inner before bytes front rest opened further is parts h =
      let is1 : all ≡ (before ++ front) ++ rest = is ∙ ap (λ (b : List ℕ). before ++ b) parts ∙ sym (append_assoc before front rest) in
      let key : text_at all (length before + length front) opened ≡ failing (length before + length front) further =
      subst (λ (k : ℕ). text_at all k opened ≡ failing k further) (length-append before front) (ap (λ (b : List ℕ). text_at b (length (before ++ front)) opened) is1 ∙ text_told (before ++ front) rest opened further h) in
      ap (λ (x : Decoding (List ℕ)). x >>= λ key to after. map_decoding (λ d. (key, d)) (decoder inner to after)) key
      ∙ failing_then (length before + length front) further (λ key to after. map_decoding (λ d. (key, d)) (decoder inner to after))

  value_told : (inner : ℕ) (before bytes front rest key spelling value : List ℕ) (m opened : Meter) (further : Defect) → left ≡ MOST_DEPTH - m.depth → all ≡ before ++ bytes → bytes ≡ front ++ rest → rest ≡ spelling ++ value → IsText key spelling → m.depth < MOST_DEPTH → opened.depth ≡ m.depth + 1 → FaultyDatum nodes inner value opened further
      → pair_at decoder all inner (length before + length front) opened ≡ failing (length before + length front) (shifted (length spelling) further)
  value_told inner before bytes front rest key spelling value m opened further l is parts more s shallow deeper h =
      let is1 : all ≡ (before ++ front) ++ (spelling ++ value) = is ∙ ap (λ (b : List ℕ). before ++ b) (parts ∙ ap (λ (b : List ℕ). front ++ b) more) ∙ sym (append_assoc before front (spelling ++ value)) in
      let read : text_at all (length before + length front) opened ≡ Complete key ((length before + length front) + length spelling) opened =
      subst (λ (k : ℕ). text_at all k opened ≡ Complete key (k + length spelling) opened) (length-append before front) (ap (λ (b : List ℕ). text_at b (length (before ++ front)) opened) is1 ∙ text_complete (before ++ front) spelling value key opened opened s refl) in
      let datum : decoder inner ((length before + length front) + length spelling) opened ≡ failing ((length before + length front) + length spelling) further =
      subst (λ (k : ℕ). decoder inner (k + length spelling) opened ≡ failing (k + length spelling) further) (length-append before front) (further_told inner (before ++ front) (spelling ++ value) spelling value m opened further l is1 refl shallow deeper h) in
      ap (λ (x : Decoding (List ℕ)). x >>= λ key to after. map_decoding (λ d. (key, d)) (decoder inner to after)) read
      ∙ ap (map_decoding (λ (d : Datum). (key, d))) datum ∙ failing_map ((length before + length front) + length spelling) further (λ (d : Datum). (key, d))
      ∙ failing_shifted (length before + length front) (length spelling) further

  -- a fault of a kind that is no union
  plain_kind_told : (kind : Node) (node : ℕ) (before bytes : List ℕ) (m : Meter) (d : Defect) → left ≡ MOST_DEPTH - m.depth → all ≡ before ++ bytes → is_union (Some kind) ≡ false → slice_get nodes node ≡ Some kind → FaultyKind nodes kind bytes m d
      → plain_at decoder all (Some kind) (length before) m ≡ failing (length before) d
  plain_kind_told _ node before bytes m d l is f k (faulty_boolean h) = form_told BooleanDatum (boolean_at) before bytes m d is (boolean_told before bytes m d h)
  plain_kind_told _ node before bytes m d l is f k (faulty_int h) = form_told IntDatum (number_at int_limit) before bytes m d is (number_told int_limit before bytes m d h)
  plain_kind_told _ node before bytes m d l is f k (faulty_long h) = form_told LongDatum (number_at long_limit) before bytes m d is (number_told long_limit before bytes m d h)
  plain_kind_told _ node before bytes m d l is f k (faulty_bytes h) = form_told BytesDatum (content_at) before bytes m d is (content_told before bytes m d h)
  plain_kind_told _ node before bytes m d l is f k (faulty_text h) = form_told TextDatum (text_at) before bytes m d is (text_told before bytes m d h)
  plain_kind_told (FixedNode name size) node before bytes m d l is f k (faulty_fixed h) = form_told FixedDatum (fixed_at size) before bytes m d is (fixed_told size before bytes m d h)
  plain_kind_told (EnumNode name symbols default) node before bytes m d l is f k (faulty_enum h) = form_told EnumDatum (position_at BadEnum (length symbols)) before bytes m d is (position_told BadEnum (length symbols) before bytes m d h)
  plain_kind_told (ArrayNode inner) node before bytes m d l is f k (refused_array r) =
      ap (map_decoding array_of) (blocks_refused_told (λ within. items_at (steps_left within) (decoder inner) all (first_walk (length before)) (length before) within) (length before) m d r) ∙ failing_map (length before) d array_of
  plain_kind_told (ArrayNode inner) node before bytes m d l is f k (faulty_array within o h) = array_told nodes node inner left all decoder k complete before bytes m within d l is o h
  plain_kind_told (ArrayNode inner) node before bytes m d l is f k (faulty_item within opened front rest further o b h place) =
      item_told nodes node inner left all decoder k complete before bytes m within d l is o front rest opened further b (further_told inner before bytes front rest m opened further l is b.here.parts o.shallow (omega (arith, b.opens.same_depth, b.here.spelled.counts.same_depth, o.deeper)) h) place
  plain_kind_told (MapNode inner) node before bytes m d l is f k (refused_map r) =
      ap (map_decoding map_of) (blocks_refused_told (λ within. items_at (steps_left within) (pair_at decoder all inner) all (first_walk (length before)) (length before) within) (length before) m d r) ∙ failing_map (length before) d map_of
  plain_kind_told (MapNode inner) node before bytes m d l is f k (faulty_map within o h) = map_told nodes node inner left all decoder k complete before bytes m within d l is o h
  plain_kind_told (MapNode inner) node before bytes m d l is f k (faulty_key within opened front rest further o b h place) =
      pair_told nodes node inner left all decoder k complete before bytes m within d l is o front rest opened further b (key_told inner before bytes front rest opened further is b.here.parts h) place
  plain_kind_told (MapNode inner) node before bytes m d l is f k (faulty_value within opened front rest key spelling value further o b parts s h place) =
      pair_told nodes node inner left all decoder k complete before bytes m within d l is o front rest opened (shifted (length spelling) further) b (value_told inner before bytes front rest key spelling value m opened further l is b.here.parts parts s o.shallow (omega (arith, b.opens.same_depth, b.here.spelled.counts.same_depth, o.deeper)) h) place
  plain_kind_told (RecordNode name fields) node before bytes m d l is f k (refused_record r) = refused_told (λ within. fields_at decoder fields (length before) within >>= closed_record m.depth) (length before) m d r
  plain_kind_told (RecordNode name fields) node before bytes m d l is f k (faulty_record within o h) = record_told left nodes all decoder complete tells fields before bytes m within d l is o h
  plain_kind_told (UnionNode members) node before bytes m d l is f k h = absurd cc

  plain_told : (node : ℕ) (before bytes : List ℕ) (m : Meter) (d : Defect) → left ≡ MOST_DEPTH - m.depth → all ≡ before ++ bytes → is_union (slice_get nodes node) ≡ false → FaultyDatum nodes node bytes m d → plain_at decoder all (slice_get nodes node) (length before) m ≡ failing (length before) d
  plain_told node before bytes m d l is f (faulty kind k h) = at_plain node (length before) m (Some kind) k ∙ plain_kind_told kind node before bytes m d l is (ap is_union (sym k) ∙ f) k h
  plain_told node before bytes m d l is f (no_node k) = at_plain node (length before) m None k

  not_union : (node : ℕ) (before bytes : List ℕ) (m : Meter) (d : Defect) → left ≡ MOST_DEPTH - m.depth → all ≡ before ++ bytes → is_union (slice_get nodes node) ≡ false → FaultyDatum nodes node bytes m d → kind_at decoder nodes all (slice_get nodes node) (length before) m ≡ failing (length before) d
  not_union node before bytes m d l is f h = kind_is_plain decoder nodes all (length before) m (slice_get nodes node) f ∙ plain_told node before bytes m d l is f h

  -- a fault of a union
  union_told : (members : List ℕ) (node : ℕ) (before bytes : List ℕ) (m : Meter) (d : Defect) → left ≡ MOST_DEPTH - m.depth → all ≡ before ++ bytes → slice_get nodes node ≡ Some (UnionNode members) → FaultyKind nodes (UnionNode members) bytes m d
      → kind_at decoder nodes all (Some (UnionNode members)) (length before) m ≡ failing (length before) d
  union_told members node before bytes m d l is k (faulty_branch h) =
      branch_told nodes node left all members (λ node at m. plain_at decoder all (slice_get nodes node) at m) k (plain_of_union nodes all decoder) before bytes m d is h
  union_told members node before bytes m d l is k (faulty_member n member front rest further got inner parts s h place) =
      let is1 : all ≡ (before ++ front) ++ rest = is ∙ ap (λ (b : List ℕ). before ++ b) parts ∙ sym (append_assoc before front rest) in
      member_told nodes node left all members (λ node at m. plain_at decoder all (slice_get nodes node) at m) k (plain_of_union nodes all decoder) n member before front rest bytes m further d is parts s got
      (subst (λ (k : ℕ). plain_at decoder all (slice_get nodes member) k m ≡ failing k further) (length-append before front) (plain_told member (before ++ front) rest m further l is1 inner h)) place
  union_told members node before bytes m _ l is k (no_member n member front rest got inner parts s) =
      no_member_told nodes node left all members (λ node at m. plain_at decoder all (slice_get nodes node) at m) k (plain_of_union nodes all decoder) n member before front rest bytes m is parts s got inner

  of_union : (node : ℕ) (members before bytes : List ℕ) (m : Meter) (d : Defect) → left ≡ MOST_DEPTH - m.depth → all ≡ before ++ bytes → slice_get nodes node ≡ Some (UnionNode members) → FaultyDatum nodes node bytes m d → kind_at decoder nodes all (slice_get nodes node) (length before) m ≡ failing (length before) d
  of_union node members before bytes m d l is u (faulty kind k h) =
      ap (λ (o : Option Node). kind_at decoder nodes all o (length before) m) u
      ∙ union_told members node before bytes m d l is u (subst (λ (x : Node). FaultyKind nodes x bytes m d) (sym (some_kind (sym k ∙ u))) h)
  of_union node members before bytes m d l is u (no_node k) = absurd (let none = sym k ∙ u in cc)

  kind_told : (node : ℕ) (o : Option Node) → Group o → (before bytes : List ℕ) (m : Meter) (d : Defect) → left ≡ MOST_DEPTH - m.depth → all ≡ before ++ bytes → slice_get nodes node ≡ o → FaultyDatum nodes node bytes m d → kind_at decoder nodes all (slice_get nodes node) (length before) m ≡ failing (length before) d
  kind_told node _ nothing before bytes m d l is k h = not_union node before bytes m d l is (ap is_union k) h
  kind_told node _ (leaf n f) before bytes m d l is k h = not_union node before bytes m d l is (ap is_union k ∙ leaf_no_union n f) h
  kind_told node _ (array_group inner) before bytes m d l is k h = not_union node before bytes m d l is (ap is_union k) h
  kind_told node _ (map_group inner) before bytes m d l is k h = not_union node before bytes m d l is (ap is_union k) h
  kind_told node _ (record_group name fields) before bytes m d l is k h = not_union node before bytes m d l is (ap is_union k) h
  kind_told node _ (union_group members) before bytes m d l is k h = of_union node members before bytes m d l is k h

node_told : (left : ℕ) (nodes : List Node) (all : List ℕ) → TellsFault nodes all (node_at left nodes all) left
unfolding node_at
node_told zero nodes all node before bytes m d l is h =
    kind_told nodes all (λ node at m. Failed Need) 0 (none_deeper (IsComplete nodes all (λ node at m. Failed Need))) (none_deeper (TellsFault nodes all (λ node at m. Failed Need))) node (slice_get nodes node) (group_of (slice_get nodes node)) before bytes m d l is refl h
node_told (suc left) nodes all node before bytes m d l is h =
    kind_told nodes all (node_at left nodes all) (suc left) (one_deeper (IsComplete nodes all (node_at left nodes all)) left (node_complete left nodes all)) (one_deeper (TellsFault nodes all (node_at left nodes all)) left (node_told left nodes all))
    node (slice_get nodes node) (group_of (slice_get nodes node)) before bytes m d l is refl h

pub datum_told : (nodes : List Node) (node : ℕ) (before bytes : List ℕ) (m : Meter) (d : Defect) → FaultyDatum nodes node bytes m d → datum_at nodes (before ++ bytes) node (length before) m ≡ failing (length before) d
datum_told nodes node before bytes m d h = node_told (MOST_DEPTH - m.depth) nodes (before ++ bytes) node before bytes m d refl refl h
