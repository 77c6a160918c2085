-- Which bytes spell a datum of a node (Avro 1.11, "Binary Encoding"), and which data are within the limits.
use Rattle.std.specs.Prelude.{◌≡◌, ◌≤◌, ℕ, ◌+◌, max, List, [], ◌∷◌, ◌++◌, length, Option, Some, slice_get, false}
use Rattle.spec_avro.specs.declared.limits.TheConstants.{MOST_DEPTH, MOST_UNITS}
use Rattle.spec_avro.specs.Blob.{IsBlob, IsFixed}
use Rattle.spec_avro.specs.Blocks.{IsItems}
use Rattle.spec_avro.specs.Boolean.{IsBoolean}
use Rattle.spec_avro.specs.Number.{IsNumber32, IsNumber64}
use Rattle.spec_avro.specs.Text.{IsText}
use Rattle.spec_avro.specs.Node.{Node, Names, FieldNode, NullNode, BooleanNode, IntNode, LongNode, BytesNode, TextNode, FixedNode, EnumNode, ArrayNode, MapNode, UnionNode, RecordNode}
use Rattle.spec_avro.specs.WellFormed.{is_union}
use Rattle.spec_avro.specs.Datum.{Datum, Data, Pairs, NullDatum, BooleanDatum, IntDatum, LongDatum, BytesDatum, TextDatum, FixedDatum, EnumDatum, ArrayDatum, MapDatum, UnionDatum, RecordDatum, no_more, more, no_pairs, pair}
use Rattle.spec_avro.specs.Position.{SpellsPosition}

abbrev mutual
  -- An enum is its symbol's position; a union its branch's position, then the branch's datum, and the branch is no
  -- union; an array or a map is its items in blocks; a record its fields, joined in the order of their declaration.
  pub Spells : List Node → ℕ → Datum → List ℕ → Type 0
  Spells nodes node NullDatum bytes = (slice_get nodes node ≡ Some NullNode) × (bytes ≡ [])
  Spells nodes node (BooleanDatum b) bytes = (slice_get nodes node ≡ Some BooleanNode) × IsBoolean b bytes
  Spells nodes node (IntDatum n) bytes = (slice_get nodes node ≡ Some IntNode) × IsNumber32 n bytes
  Spells nodes node (LongDatum n) bytes = (slice_get nodes node ≡ Some LongNode) × IsNumber64 n bytes
  Spells nodes node (BytesDatum value) bytes = (slice_get nodes node ≡ Some BytesNode) × IsBlob value bytes
  Spells nodes node (TextDatum text) bytes = (slice_get nodes node ≡ Some TextNode) × IsText text bytes
  Spells nodes node (FixedDatum value) bytes =
      (name : Names) × (size : ℕ) × (slice_get nodes node ≡ Some (FixedNode name size)) × IsFixed size value bytes
  Spells nodes node (EnumDatum n) bytes =
      (name : Names) × (symbols : List (List ℕ)) × (default : Option ℕ)
      × (slice_get nodes node ≡ Some (EnumNode name symbols default)) × SpellsPosition (length symbols) n bytes
  Spells nodes node (ArrayDatum ds) bytes =
      (inner : ℕ) × (slice_get nodes node ≡ Some (ArrayNode inner)) × (items : List (List ℕ)) × IsItems items bytes
      × SpellsItems nodes inner ds items
  Spells nodes node (MapDatum ps) bytes =
      (inner : ℕ) × (slice_get nodes node ≡ Some (MapNode inner)) × (items : List (List ℕ)) × IsItems items bytes
      × SpellsPairs nodes inner ps items
  Spells nodes node (UnionDatum n d) bytes =
      (members : List ℕ) × (slice_get nodes node ≡ Some (UnionNode members)) × (member : ℕ)
      × (slice_get members n ≡ Some member) × (is_union (slice_get nodes member) ≡ false)
      × (front : List ℕ) × (rest : List ℕ) × (bytes ≡ front ++ rest) × SpellsPosition (length members) n front
      × Spells nodes member d rest
  Spells nodes node (RecordDatum ds) bytes =
      (name : Names) × (fields : List FieldNode) × (slice_get nodes node ≡ Some (RecordNode name fields))
      × SpellsFields nodes fields ds bytes

  -- each item spells a datum of the node
  pub SpellsItems : List Node → ℕ → Data → List (List ℕ) → Type 0
  SpellsItems nodes node no_more [] = Unit {0}
  SpellsItems nodes node (more d ds) (bytes ∷ items) = Spells nodes node d bytes × SpellsItems nodes node ds items
  SpellsItems nodes node no_more (bytes ∷ items) = ⊥
  SpellsItems nodes node (more d ds) [] = ⊥

  -- each item spells a key, and a datum of the node after it
  pub SpellsPairs : List Node → ℕ → Pairs → List (List ℕ) → Type 0
  SpellsPairs nodes node no_pairs [] = Unit {0}
  SpellsPairs nodes node (pair key d ps) (bytes ∷ items) =
      ((front : List ℕ) × (rest : List ℕ) × (bytes ≡ front ++ rest) × IsText key front × Spells nodes node d rest)
      × SpellsPairs nodes node ps items
  SpellsPairs nodes node no_pairs (bytes ∷ items) = ⊥
  SpellsPairs nodes node (pair key d ps) [] = ⊥

  pub SpellsFields : List Node → List FieldNode → Data → List ℕ → Type 0
  SpellsFields nodes [] no_more bytes = bytes ≡ []
  SpellsFields nodes (f ∷ fs) (more d ds) bytes =
      (front : List ℕ) × (rest : List ℕ) × (bytes ≡ front ++ rest) × Spells nodes f.node d front
      × SpellsFields nodes fs ds rest
  SpellsFields nodes [] (more d ds) bytes = ⊥
  SpellsFields nodes (f ∷ fs) no_more bytes = ⊥

-- ---- limits

-- how many records, arrays and maps lie inside each other
abbrev mutual
  pub depth_of : Datum → ℕ
  depth_of (ArrayDatum ds) = depth_of_data ds + 1
  depth_of (MapDatum ps) = depth_of_pairs ps + 1
  depth_of (UnionDatum n d) = depth_of d
  depth_of (RecordDatum ds) = depth_of_data ds + 1
  depth_of _ = 0

  pub depth_of_data : Data → ℕ
  depth_of_data no_more = 0
  depth_of_data (more d ds) = max (depth_of d) (depth_of_data ds)

  pub depth_of_pairs : Pairs → ℕ
  depth_of_pairs no_pairs = 0
  depth_of_pairs (pair key d ps) = max (depth_of d) (depth_of_pairs ps)

-- how many records, array items and map pairs there are
abbrev mutual
  pub units_of : Datum → ℕ
  units_of (ArrayDatum ds) = units_of_items ds
  units_of (MapDatum ps) = units_of_pairs ps
  units_of (UnionDatum n d) = units_of d
  units_of (RecordDatum ds) = units_of_data ds + 1
  units_of _ = 0

  pub units_of_data : Data → ℕ
  units_of_data no_more = 0
  units_of_data (more d ds) = units_of d + units_of_data ds

  pub units_of_items : Data → ℕ
  units_of_items no_more = 0
  units_of_items (more d ds) = (units_of d + 1) + units_of_items ds

  pub units_of_pairs : Pairs → ℕ
  units_of_pairs no_pairs = 0
  units_of_pairs (pair key d ps) = (units_of d + 1) + units_of_pairs ps

-- the datum is within the limits of a message
-- This project's own rule: the standard has no such limits.
abbrev pub Fits : Datum → Type 0
Fits d = (depth_of d ≤ MOST_DEPTH) × (units_of d ≤ MOST_UNITS)
