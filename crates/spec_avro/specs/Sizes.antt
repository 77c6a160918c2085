-- How long the texts in data are and how many items arrays and maps have; and so in the defaults of a schema.
use Rattle.std.specs.Prelude.{◌≡◌, ◌≤◌, ℕ, List, length, Some, IfSome, slice_get}
use Rattle.std.specs.List.{AllByRecursion}
use Rattle.spec_avro.specs.Datum.{Datum, Data, Pairs, NullDatum, BooleanDatum, IntDatum, LongDatum, BytesDatum, TextDatum, FixedDatum, EnumDatum, ArrayDatum, MapDatum, UnionDatum, RecordDatum, no_more, more, no_pairs, pair, how_many, how_many_pairs}
use Rattle.spec_avro.specs.Node.{Node, Names, FieldNode, RecordNode}

-- No text, byte string or key is longer than `text` (a fixed has no length that is written), and no array or map has
-- more than `items` items.
abbrev mutual
  pub HasSizesWithin : (text items : ℕ) → Datum → Type 0
  HasSizesWithin text items NullDatum = Unit {0}
  HasSizesWithin text items (BooleanDatum b) = Unit {0}
  HasSizesWithin text items (IntDatum n) = Unit {0}
  HasSizesWithin text items (LongDatum n) = Unit {0}
  HasSizesWithin text items (BytesDatum value) = length value ≤ text
  HasSizesWithin text items (TextDatum value) = length value ≤ text
  HasSizesWithin text items (FixedDatum value) = Unit {0}
  HasSizesWithin text items (EnumDatum n) = Unit {0}
  HasSizesWithin text items (ArrayDatum ds) = (how_many ds ≤ items) × HaveSizesWithin text items ds
  HasSizesWithin text items (MapDatum ps) = (how_many_pairs ps ≤ items) × HavePairsWithin text items ps
  HasSizesWithin text items (UnionDatum n d) = HasSizesWithin text items d
  HasSizesWithin text items (RecordDatum ds) = HaveSizesWithin text items ds

  pub HaveSizesWithin : (text items : ℕ) → Data → Type 0
  HaveSizesWithin text items no_more = Unit {0}
  HaveSizesWithin text items (more d ds) = HasSizesWithin text items d × HaveSizesWithin text items ds

  pub HavePairsWithin : (text items : ℕ) → Pairs → Type 0
  HavePairsWithin text items no_pairs = Unit {0}
  HavePairsWithin text items (pair key d ps) =
      (length key ≤ text) × HasSizesWithin text items d × HavePairsWithin text items ps

-- so in the default of each record's field
abbrev pub DefaultsHaveSizesWithin : (text items : ℕ) → List Node → Type 0
DefaultsHaveSizesWithin text items nodes =
    (node : ℕ) (names : Names) (fields : List FieldNode) → slice_get nodes node ≡ Some (RecordNode names fields)
    → AllByRecursion (λ f. IfSome f.default (HasSizesWithin text items)) fields
