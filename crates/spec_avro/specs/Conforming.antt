-- Which data are of a node's type (Avro 1.11, "Primitive Types" and "Complex Types").
use Rattle.std.specs.Prelude.{◌≡◌, ◌<◌, ℕ, ◌^◌, List, [], ◌∷◌, length, Option, Some, IfSome, slice_get, ℤ, pos, negsuc}
use Rattle.std.specs.List.{AllByRecursion}
use Rattle.std.specs.Str.{IsUtf8}
use Rattle.spec_avro.specs.Node.{Node, Names, FieldNode, NullNode, BooleanNode, IntNode, LongNode, BytesNode, TextNode, FixedNode, EnumNode, ArrayNode, MapNode, UnionNode, RecordNode}
use Rattle.spec_avro.specs.Datum.{Datum, Data, Pairs, NullDatum, BooleanDatum, IntDatum, LongDatum, BytesDatum, TextDatum, FixedDatum, EnumDatum, ArrayDatum, MapDatum, UnionDatum, RecordDatum, no_more, more, no_pairs, pair}

-- a signed number of `bits` bits beside its sign
abbrev pub HasBits : ℕ → ℤ → Type 0
HasBits bits (pos n) = n < 2 ^ bits
HasBits bits (negsuc n) = n < 2 ^ bits

abbrev mutual
  pub Conforms : List Node → ℕ → Datum → Type 0
  Conforms nodes node NullDatum = slice_get nodes node ≡ Some NullNode
  Conforms nodes node (BooleanDatum b) = slice_get nodes node ≡ Some BooleanNode
  Conforms nodes node (IntDatum n) = (slice_get nodes node ≡ Some IntNode) × HasBits 31 n
  Conforms nodes node (LongDatum n) = (slice_get nodes node ≡ Some LongNode) × HasBits 63 n
  Conforms nodes node (BytesDatum bytes) = slice_get nodes node ≡ Some BytesNode
  Conforms nodes node (TextDatum text) = (slice_get nodes node ≡ Some TextNode) × IsUtf8 text
  Conforms nodes node (FixedDatum bytes) =
      (names : Names) × (slice_get nodes node ≡ Some (FixedNode names (length bytes)))
  Conforms nodes node (EnumDatum n) =
      (names : Names) × (symbols : List (List ℕ)) × (default : Option ℕ)
      × (slice_get nodes node ≡ Some (EnumNode names symbols default)) × (n < length symbols)
  Conforms nodes node (ArrayDatum ds) =
      (inner : ℕ) × (slice_get nodes node ≡ Some (ArrayNode inner)) × ConformAll nodes inner ds
  Conforms nodes node (MapDatum ps) =
      (inner : ℕ) × (slice_get nodes node ≡ Some (MapNode inner)) × ConformPairs nodes inner ps
  Conforms nodes node (UnionDatum n d) =
      (members : List ℕ) × (slice_get nodes node ≡ Some (UnionNode members)) × (member : ℕ)
      × (slice_get members n ≡ Some member) × Conforms nodes member d
  Conforms nodes node (RecordDatum ds) =
      (names : Names) × (fields : List FieldNode) × (slice_get nodes node ≡ Some (RecordNode names fields))
      × ConformsEach nodes fields ds

  -- the data are all of one type
  pub ConformAll : List Node → ℕ → Data → Type 0
  ConformAll nodes node no_more = Unit {0}
  ConformAll nodes node (more d ds) = Conforms nodes node d × ConformAll nodes node ds

  -- the keys are texts, and the data under them all of one type
  pub ConformPairs : List Node → ℕ → Pairs → Type 0
  ConformPairs nodes node no_pairs = Unit {0}
  ConformPairs nodes node (pair key d ps) = IsUtf8 key × Conforms nodes node d × ConformPairs nodes node ps

  -- the data are of the fields' types, as many as there are
  pub ConformsEach : List Node → List FieldNode → Data → Type 0
  ConformsEach nodes [] no_more = Unit {0}
  ConformsEach nodes (f ∷ fs) (more d ds) = Conforms nodes f.node d × ConformsEach nodes fs ds
  ConformsEach nodes [] (more d ds) = ⊥
  ConformsEach nodes (f ∷ fs) no_more = ⊥

-- the default of each record's field is of the field's type
abbrev pub DefaultsConform : List Node → Type 0
DefaultsConform nodes =
    (node : ℕ) (names : Names) (fields : List FieldNode) → slice_get nodes node ≡ Some (RecordNode names fields)
    → AllByRecursion (λ f. IfSome f.default (Conforms nodes f.node)) fields
