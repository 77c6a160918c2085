-- The kinds that hold no others: what is read is spelled so, what is spelled is read, and the first fault, both ways.
use Rattle.std.proofs.Common.{◌≡◌, ◌≢◌, ℕ, ◌≤◌, List, ◌++◌, length, drop, Some, refl, sym, subst, slice_get, lit<}
use Rattle.spec_avro.specs.declared.malformed.MalformedKind.TheVariants.{BadEnum}
use Rattle.spec_avro.specs.declared.meter.Meter.{Meter}
use Rattle.spec_avro.specs.Blob.{FaultyFixed}
use Rattle.avro_bytes.specs.Blob.{fixed_at, content_at}
use Rattle.spec_avro.specs.Boolean.{FaultyBoolean}
use Rattle.spec_decoding.specs.BooleanDecoding.{boolean_at}
use Rattle.spec_avro.specs.Meter.{Counts}
use Rattle.spec_avro.specs.Number.{int_limit, long_limit}
use Rattle.spec_decoding.specs.NumberDecoding.{number_at}
use Rattle.avro_bytes.specs.Text.{text_at}
use Rattle.avro_bytes.specs.Laws.Binds.{defect_as, defect_map, complete_is}
use Rattle.avro_bytes.specs.Laws.Blobs.{blob_sound, content_steady}
use Rattle.avro_bytes.specs.Laws.Booleans.{boolean_defect, boolean_sound, boolean_steady}
use Rattle.avro_bytes.specs.Laws.Defects.{number_defect}
use Rattle.avro_bytes.specs.Laws.Fixeds.{fixed_defect, fixed_sound, fixed_steady}
use Rattle.avro_bytes.specs.Laws.Numbers.{number_sound, number_steady}
use Rattle.avro_bytes.specs.Laws.Texts.{text_sound, text_steady}
use Rattle.avro_bytes.specs.Laws.TextDefects.{text_defect}
use Rattle.spec_avro.specs.Node.{Node, NullNode, BooleanNode, IntNode, LongNode, BytesNode, TextNode, FixedNode, EnumNode, ArrayNode, MapNode, UnionNode, RecordNode}
use Rattle.spec_avro.specs.Datum.{Datum, NullDatum, BooleanDatum, IntDatum, LongDatum, BytesDatum, TextDatum, FixedDatum, EnumDatum}
use Rattle.avro_datum.specs.Decoding.{IsLeaf, leaf_at}
use Rattle.spec_avro.specs.FaultyDatum.{FaultyDatum, faulty, faulty_boolean, faulty_int, faulty_long, faulty_bytes, faulty_text, faulty_fixed, faulty_enum}
use Rattle.spec_avro.specs.Position.{FaultyPosition}
use Rattle.spec_decoding.specs.PositionDecoding.{position_at}
use Rattle.spec_avro.specs.Spelling.{Spells, depth_of, units_of}
use Rattle.avro_datum.specs.Laws.Parts.{counts_none, map_steady, mapped, nowhere, stands_as}
use Rattle.avro_bytes.specs.Laws.Positions.{position_defect, position_sound, position_steady}
use Rattle.spec_decoding.specs.Decoding.{Complete, Decoding, Failed}
use Rattle.avro_bytes.specs.Decoding.{Stands, map_decoding}
use Rattle.spec_avro.specs.Defect.{Defect, Need}
use Rattle.spec_avro.specs.Fault.{FaultyContent, FaultyNumber, FaultyText}
use Rattle.avro_bytes.specs.Fault.{HasDefect}
use Rattle.avro_bytes.specs.Laws.BlobDefects.{content_defect}

-- a value that is read, as the datum that it is
read_as : {A : Type 0} (P : A → List ℕ → Type 0) (f : A → Datum) (nodes : List Node) (node : ℕ) (all : List ℕ) (at : ℕ) (m : Meter) (decoding : Decoding A)
    → ((a : A) → depth_of (f a) ≡ 0) → ((a : A) → units_of (f a) ≡ 0)
    → ((a : A) (bytes : List ℕ) → P a bytes → Spells nodes node (f a) bytes)
    → ((a : A) (to : ℕ) (after : Meter) → decoding ≡ Complete a to after → Stands (P a) all at to × (m ≡ after))
    → (d : Datum) (to : ℕ) (after : Meter) → map_decoding f decoding ≡ Complete d to after → Stands (Spells nodes node d) all at to × Counts (depth_of d) (units_of d) m after
read_as P f nodes node all at m decoding flat single spells sound d to after e =
    let v = mapped f decoding d to after e in
    let s = sound v.0 to after v.1 in
    let counts : Counts (depth_of (f v.0)) (units_of (f v.0)) m after = rw (flat v.0, single v.0) (counts_none m after s.1) in
    subst (λ (x : Datum). Stands (Spells nodes node x) all at to × Counts (depth_of x) (units_of x) m after) (sym v.2) (stands_as (spells v.0) s.0, counts)

pub leaf_sound : (nodes : List Node) (node : ℕ) (all : List ℕ) (n : Node) (at : ℕ) (m : Meter) (d : Datum) (to : ℕ) (after : Meter) → slice_get nodes node ≡ Some n → leaf_at all n at m ≡ Complete d to after → Stands (Spells nodes node d) all at to × Counts (depth_of d) (units_of d) m after
leaf_sound nodes node all NullNode at m d to after is e =
    let w = complete_is e in
    let none : Stands (Spells nodes node NullDatum) all at at = stands_as (λ bytes s. (is, s)) (nowhere all at) in
    (subst (λ (x : Datum). Stands (Spells nodes node x) all at to) w.0 (subst (Stands (Spells nodes node NullDatum) all at) w.1 none), subst (λ (x : Datum). Counts (depth_of x) (units_of x) m after) w.0 (counts_none m after w.2))
leaf_sound nodes node all BooleanNode at m d to after is e = read_as _ BooleanDatum nodes node all at m (boolean_at all at m) (λ b. refl) (λ b. refl) (λ b bytes s. (is, s)) (boolean_sound all at m) d to after e
leaf_sound nodes node all IntNode at m d to after is e = read_as _ IntDatum nodes node all at m (number_at int_limit all at m) (λ n. refl) (λ n. refl) (λ n bytes s. (is, s)) (λ n to after e. number_sound int_limit all at m n to after (lit< tt) e) d to after e
leaf_sound nodes node all LongNode at m d to after is e = read_as _ LongDatum nodes node all at m (number_at long_limit all at m) (λ n. refl) (λ n. refl) (λ n bytes s. (is, s)) (λ n to after e. number_sound long_limit all at m n to after (lit< tt) e) d to after e
leaf_sound nodes node all BytesNode at m d to after is e = read_as _ BytesDatum nodes node all at m (content_at all at m) (λ v. refl) (λ v. refl) (λ v bytes s. (is, s)) (blob_sound all at m) d to after e
leaf_sound nodes node all TextNode at m d to after is e = read_as _ TextDatum nodes node all at m (text_at all at m) (λ v. refl) (λ v. refl) (λ v bytes s. (is, s)) (text_sound all at m) d to after e
leaf_sound nodes node all (FixedNode name size) at m d to after is e = read_as _ FixedDatum nodes node all at m (fixed_at size all at m) (λ v. refl) (λ v. refl) (λ v bytes s. (name, size, is, s)) (fixed_sound size all at m) d to after e
leaf_sound nodes node all (EnumNode name symbols default) at m d to after is e = read_as _ EnumDatum nodes node all at m (position_at BadEnum (length symbols) all at m) (λ n. refl) (λ n. refl) (λ n bytes s. (name, symbols, default, is, s)) (position_sound BadEnum (length symbols) all at m) d to after e
leaf_sound nodes node all (ArrayNode inner) at m d to after is e = absurd cc
leaf_sound nodes node all (MapNode inner) at m d to after is e = absurd cc
leaf_sound nodes node all (UnionNode members) at m d to after is e = absurd cc
leaf_sound nodes node all (RecordNode name fields) at m d to after is e = absurd cc

pub leaf_steady : (all more : List ℕ) (n : Node) (at : ℕ) (m : Meter) → at ≤ length all → leaf_at all n at m ≢ Failed Need → leaf_at (all ++ more) n at m ≡ leaf_at all n at m
leaf_steady all more NullNode at m le c = refl
leaf_steady all more BooleanNode at m le c = map_steady BooleanDatum (boolean_at all at m) (boolean_at (all ++ more) at m) (boolean_steady all more at m le) c
leaf_steady all more IntNode at m le c = map_steady IntDatum (number_at int_limit all at m) (number_at int_limit (all ++ more) at m) (number_steady int_limit all more at m le) c
leaf_steady all more LongNode at m le c = map_steady LongDatum (number_at long_limit all at m) (number_at long_limit (all ++ more) at m) (number_steady long_limit all more at m le) c
leaf_steady all more BytesNode at m le c = map_steady BytesDatum (content_at all at m) (content_at (all ++ more) at m) (content_steady all more at m le) c
leaf_steady all more TextNode at m le c = map_steady TextDatum (text_at all at m) (text_at (all ++ more) at m) (text_steady all more at m le) c
leaf_steady all more (FixedNode name size) at m le c = map_steady FixedDatum (fixed_at size all at m) (fixed_at size (all ++ more) at m) (fixed_steady size all more at m le) c
leaf_steady all more (EnumNode name symbols default) at m le c = map_steady EnumDatum (position_at BadEnum (length symbols) all at m) (position_at BadEnum (length symbols) (all ++ more) at m) (position_steady BadEnum (length symbols) all more at m le) c
leaf_steady all more (ArrayNode inner) at m le c = refl
leaf_steady all more (MapNode inner) at m le c = refl
leaf_steady all more (UnionNode members) at m le c = refl
leaf_steady all more (RecordNode name fields) at m le c = refl

-- a fault of what is read, as that of the datum
faulty_as : {A : Type 0} (f : A → Datum) (decoding : Decoding A) (at : ℕ) (P Q : Defect → Type 0) → ((d : Defect) → P d → Q d) → HasDefect decoding at P → HasDefect (map_decoding f decoding) at Q
faulty_as f decoding at P Q as_datum h = defect_map f decoding at Q (defect_as decoding at P Q as_datum h)

pub leaf_defect : (nodes : List Node) (node : ℕ) (all : List ℕ) (n : Node) (at : ℕ) (m : Meter) → slice_get nodes node ≡ Some n → IsLeaf n → HasDefect (leaf_at all n at m) at (FaultyDatum nodes node (drop at all) m)
leaf_defect nodes node all NullNode at m is l = tt
leaf_defect nodes node all BooleanNode at m is l = faulty_as BooleanDatum (boolean_at all at m) at (FaultyBoolean (drop at all)) (FaultyDatum nodes node (drop at all) m) (λ d h. faulty BooleanNode is (faulty_boolean h)) (boolean_defect all at m)
leaf_defect nodes node all IntNode at m is l = faulty_as IntDatum (number_at int_limit all at m) at (FaultyNumber int_limit (drop at all)) (FaultyDatum nodes node (drop at all) m) (λ d h. faulty IntNode is (faulty_int h)) (number_defect int_limit all at m (lit< tt))
leaf_defect nodes node all LongNode at m is l = faulty_as LongDatum (number_at long_limit all at m) at (FaultyNumber long_limit (drop at all)) (FaultyDatum nodes node (drop at all) m) (λ d h. faulty LongNode is (faulty_long h)) (number_defect long_limit all at m (lit< tt))
leaf_defect nodes node all BytesNode at m is l = faulty_as BytesDatum (content_at all at m) at (FaultyContent (drop at all)) (FaultyDatum nodes node (drop at all) m) (λ d h. faulty BytesNode is (faulty_bytes h)) (content_defect all at m)
leaf_defect nodes node all TextNode at m is l = faulty_as TextDatum (text_at all at m) at (FaultyText (drop at all)) (FaultyDatum nodes node (drop at all) m) (λ d h. faulty TextNode is (faulty_text h)) (text_defect all at m)
leaf_defect nodes node all (FixedNode name size) at m is l = faulty_as FixedDatum (fixed_at size all at m) at (FaultyFixed size (drop at all)) (FaultyDatum nodes node (drop at all) m) (λ d h. faulty (FixedNode name size) is (faulty_fixed h)) (fixed_defect size all at m)
leaf_defect nodes node all (EnumNode name symbols default) at m is l = faulty_as EnumDatum (position_at BadEnum (length symbols) all at m) at (FaultyPosition BadEnum (length symbols) (drop at all)) (FaultyDatum nodes node (drop at all) m) (λ d h. faulty (EnumNode name symbols default) is (faulty_enum h)) (position_defect BadEnum (length symbols) all at m)
leaf_defect nodes node all (ArrayNode inner) at m is l = absurd l
leaf_defect nodes node all (MapNode inner) at m is l = absurd l
leaf_defect nodes node all (UnionNode members) at m is l = absurd l
leaf_defect nodes node all (RecordNode name fields) at m is l = absurd l
