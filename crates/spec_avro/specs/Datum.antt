-- A datum as a tree, wherever it lies in memory (Avro 1.11, "Schema Declaration": the kinds of types).
use Rattle.std.specs.Prelude.{ℕ, suc, List, ℤ, Bool}

mutual
  pub data Datum : Type 0 where
    NullDatum : Datum
    BooleanDatum : Bool → Datum
    IntDatum : ℤ → Datum
    LongDatum : ℤ → Datum
    BytesDatum : List ℕ → Datum
    TextDatum : List ℕ → Datum
    FixedDatum : List ℕ → Datum
    -- the position of the symbol
    EnumDatum : ℕ → Datum
    ArrayDatum : Data → Datum
    MapDatum : Pairs → Datum
    -- the position of the branch
    UnionDatum : ℕ → Datum → Datum
    RecordDatum : Data → Datum

  -- data in a row
  pub data Data : Type 0 where
    no_more : Data
    more : Datum → Data → Data

  -- keys with their data, in a row
  pub data Pairs : Type 0 where
    no_pairs : Pairs
    pair : List ℕ → Datum → Pairs → Pairs

abbrev pub how_many : Data → ℕ
how_many no_more = 0
how_many (more d ds) = suc (how_many ds)

abbrev pub how_many_pairs : Pairs → ℕ
how_many_pairs no_pairs = 0
how_many_pairs (pair key d ps) = suc (how_many_pairs ps)
