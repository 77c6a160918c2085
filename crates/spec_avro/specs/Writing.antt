-- The one written form of a datum (Avro 1.11, "Binary Encoding"): numbers in their shortest spelling, items in one
-- block. This project's own rule: which of the spellings is written, and the limit of its bytes.
use Rattle.std.specs.Prelude.{ℕ, List, [], ◌∷◌, ◌++◌, pos}
use Rattle.spec_avro.specs.Boolean.{boolean_byte}
use Rattle.spec_avro.specs.Shortest.{shortest}
use Rattle.spec_avro.specs.Written.{after_length, in_block}
use Rattle.spec_avro.specs.Datum.{Datum, Data, Pairs, NullDatum, BooleanDatum, IntDatum, LongDatum, BytesDatum, TextDatum, FixedDatum, EnumDatum, ArrayDatum, MapDatum, UnionDatum, RecordDatum, no_more, more, no_pairs, pair, how_many, how_many_pairs}

unfoldable mutual
  pub written : Datum → List ℕ
  written NullDatum = []
  written (BooleanDatum b) = boolean_byte b ∷ []
  written (IntDatum n) = shortest n
  written (LongDatum n) = shortest n
  written (BytesDatum value) = after_length value
  written (TextDatum text) = after_length text
  written (FixedDatum value) = value
  written (EnumDatum n) = shortest (pos n)
  written (ArrayDatum ds) = in_block (how_many ds) (written_data ds)
  written (MapDatum ps) = in_block (how_many_pairs ps) (written_pairs ps)
  written (UnionDatum n d) = shortest (pos n) ++ written d
  written (RecordDatum ds) = written_data ds

  -- one after another
  pub written_data : Data → List ℕ
  written_data no_more = []
  written_data (more d ds) = written d ++ written_data ds

  pub written_pairs : Pairs → List ℕ
  written_pairs no_pairs = []
  written_pairs (pair key d ps) = after_length key ++ (written d ++ written_pairs ps)
