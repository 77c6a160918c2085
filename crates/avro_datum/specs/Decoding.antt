-- Decoding a datum of a node at an offset of the bytes (Avro 1.11, "Binary Encoding").
use Rattle.std.specs.Prelude.{ℕ, zero, suc, ◌-◌, List, [], ◌∷◌, length, Option, Some, None, slice_get}
use Rattle.spec_avro.specs.declared.malformed.MalformedKind.TheVariants.{BadEnum, BadBranch}
use Rattle.spec_avro.specs.declared.meter.Meter.{Meter}
use Rattle.spec_avro.specs.declared.limits.TheConstants.{MOST_DEPTH}
use Rattle.avro_bytes.specs.Blob.{fixed_at, content_at}
use Rattle.spec_decoding.specs.BooleanDecoding.{boolean_at}
use Rattle.spec_decoding.specs.Opening.{opened_record}
use Rattle.spec_avro.specs.Number.{int_limit, long_limit}
use Rattle.spec_decoding.specs.NumberDecoding.{number_at}
use Rattle.avro_bytes.specs.Text.{text_at}
use Rattle.spec_avro.specs.Node.{Node, FieldNode, NullNode, BooleanNode, IntNode, LongNode, BytesNode, TextNode, FixedNode, EnumNode, ArrayNode, MapNode, UnionNode, RecordNode}
use Rattle.spec_avro.specs.Datum.{Datum, Data, Pairs, NullDatum, BooleanDatum, IntDatum, LongDatum, BytesDatum, TextDatum, FixedDatum, EnumDatum, ArrayDatum, MapDatum, UnionDatum, RecordDatum, no_more, more, no_pairs, pair}
use Rattle.avro_datum.specs.ItemDecoding.{Reader, blocks_at}
use Rattle.spec_decoding.specs.PositionDecoding.{position_at}
use Rattle.spec_decoding.specs.Decoding.{Complete, Decoding, Failed, inside, ◌>>=◌}
use Rattle.avro_bytes.specs.Decoding.{map_decoding}
use Rattle.spec_avro.specs.Defect.{Need}

-- what decodes a datum of a node at an offset
abbrev pub Decoder : Type 0
Decoder = ℕ → ℕ → Meter → Decoding Datum

-- ---- the kinds that hold no others

abbrev pub IsLeaf : Node → Type 0
IsLeaf (ArrayNode inner) = ⊥
IsLeaf (MapNode inner) = ⊥
IsLeaf (UnionNode members) = ⊥
IsLeaf (RecordNode name fields) = ⊥
IsLeaf _ = Unit {0}

abbrev pub leaf_at : List ℕ → Node → ℕ → Meter → Decoding Datum
leaf_at bytes NullNode at m = Complete NullDatum at m
leaf_at bytes BooleanNode at m = map_decoding BooleanDatum (boolean_at bytes at m)
leaf_at bytes IntNode at m = map_decoding IntDatum (number_at int_limit bytes at m)
leaf_at bytes LongNode at m = map_decoding LongDatum (number_at long_limit bytes at m)
leaf_at bytes BytesNode at m = map_decoding BytesDatum (content_at bytes at m)
leaf_at bytes TextNode at m = map_decoding TextDatum (text_at bytes at m)
leaf_at bytes (FixedNode name size) at m = map_decoding FixedDatum (fixed_at size bytes at m)
leaf_at bytes (EnumNode name symbols default) at m =
    map_decoding EnumDatum (position_at BadEnum (length symbols) bytes at m)
leaf_at bytes _ at m = Failed Need

-- ---- records

-- the data of fields, one after another
unfoldable pub fields_at : Decoder → List FieldNode → ℕ → Meter → Decoding Data
fields_at decoder [] at m = Complete no_more at m
fields_at decoder (f ∷ fs) at m =
    decoder f.node at m >>= λ d to after. fields_at decoder fs to after >>= λ ds end last. Complete (more d ds) end last

-- after a record, as deep as before it
abbrev pub closed_record : ℕ → Data → ℕ → Meter → Decoding Datum
closed_record depth ds to m = Complete (RecordDatum ds) to (record { depth = depth; units = m.units })

abbrev pub record_at : Decoder → List FieldNode → ℕ → Meter → Decoding Datum
record_at decoder fields at m =
    inside (opened_record at m) (λ within. fields_at decoder fields at within >>= closed_record m.depth)

-- ---- arrays and maps

abbrev pub data_from : List Datum → Data
data_from [] = no_more
data_from (d ∷ ds) = more d (data_from ds)

abbrev pub pairs_from : List (List ℕ × Datum) → Pairs
pairs_from [] = no_pairs
pairs_from (p ∷ ps) = pair p.0 p.1 (pairs_from ps)

abbrev pub array_of : List Datum → Datum
array_of ds = ArrayDatum (data_from ds)

abbrev pub map_of : List (List ℕ × Datum) → Datum
map_of ps = MapDatum (pairs_from ps)

-- a key, and the datum after it
abbrev pub pair_at : Decoder → List ℕ → ℕ → Reader (List ℕ × Datum)
pair_at decoder bytes inner at m =
    text_at bytes at m >>= λ key to after. map_decoding (λ d. (key, d)) (decoder inner to after)

-- ---- unions

abbrev pub member_at : Decoder → Option ℕ → ℕ → Meter → Decoding Datum
member_at decoder (Some member) at m = decoder member at m
member_at decoder None at m = Failed Need

abbrev pub union_at : Decoder → List ℕ → List ℕ → ℕ → Meter → Decoding Datum
union_at decoder bytes members at m =
    position_at BadBranch (length members) bytes at m >>= λ n to after.
    map_decoding (UnionDatum n) (member_at decoder (slice_get members n) to after)

-- ---- each kind

-- a datum of a kind that is no union, whose parts are decoded by decoder
abbrev pub plain_at : Decoder → List ℕ → Option Node → ℕ → Meter → Decoding Datum
plain_at decoder bytes (Some (RecordNode name fields)) at m = record_at decoder fields at m
plain_at decoder bytes (Some (ArrayNode inner)) at m = map_decoding array_of (blocks_at (decoder inner) bytes at m)
plain_at decoder bytes (Some (MapNode inner)) at m =
    map_decoding map_of (blocks_at (pair_at decoder bytes inner) bytes at m)
plain_at decoder bytes (Some node) at m = leaf_at bytes node at m
plain_at decoder bytes None at m = Failed Need

-- A datum of a kind. A union's branch is no union, and is no deeper.
abbrev pub kind_at : Decoder → List Node → List ℕ → Option Node → ℕ → Meter → Decoding Datum
kind_at decoder nodes bytes (Some (UnionNode members)) at m =
    union_at (λ node at m. plain_at decoder bytes (slice_get nodes node) at m) bytes members at m
kind_at decoder nodes bytes o at m = plain_at decoder bytes o at m

-- where n more records, arrays and maps may be opened
unfoldable pub node_at : ℕ → List Node → List ℕ → Decoder
node_at zero nodes bytes node at m = kind_at (λ node at m. Failed Need) nodes bytes (slice_get nodes node) at m
node_at (suc left) nodes bytes node at m = kind_at (node_at left nodes bytes) nodes bytes (slice_get nodes node) at m

-- inside as many as the meter says
abbrev pub datum_at : List Node → List ℕ → Decoder
datum_at nodes bytes node at m = node_at (MOST_DEPTH - m.depth) nodes bytes node at m
