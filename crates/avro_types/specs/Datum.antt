-- The data that values of the code are. This project's own.
use Rattle.std.specs.Prelude.{List, [], ◌∷◌, String, string_bytes}
use Rattle.std.specs.Global.{Global}
use Rattle.avro_types.specs.declared.datum.Datum as rust
use Rattle.spec_avro.specs.Datum.{Datum, NullDatum, BooleanDatum, IntDatum, LongDatum, BytesDatum, TextDatum, FixedDatum, EnumDatum, ArrayDatum, MapDatum, UnionDatum, RecordDatum, Data, no_more, more, Pairs, no_pairs, pair}

-- the tree that a value of the program represents
abbrev mutual
  pub datum_of : rust.Datum → Datum
  datum_of rust.Null = NullDatum
  datum_of (rust.Boolean b) = BooleanDatum b
  datum_of (rust.Int n) = IntDatum n
  datum_of (rust.Long n) = LongDatum n
  datum_of (rust.Bytes bytes) = BytesDatum bytes.items
  datum_of (rust.Text text) = TextDatum (string_bytes text)
  datum_of (rust.Fixed bytes) = FixedDatum bytes.items
  datum_of (rust.Enum position) = EnumDatum position
  datum_of (rust.Array' shape items) = ArrayDatum (row_data items)
  datum_of (rust.Map' shape pairs) = MapDatum (row_pairs pairs)
  datum_of (rust.Union' position p d) = UnionDatum position (datum_of d)
  datum_of (rust.Record' shape fields) = RecordDatum (row_data fields)

  pub row_data : {m : _} → rust.Row_of-Datum m → Data
  row_data rust.end_of-Datum = no_more
  row_data (rust.more_of-Datum d rest) = more (datum_of d) (row_data rest)

  pub row_pairs : {m : _} → rust.Row_of-Datum-Map-0-2 m → Pairs
  row_pairs rust.end_of-Datum-Map-0-2 = no_pairs
  row_pairs (rust.more_of-Datum-Map-0-2 key d rest) = pair (string_bytes key) (datum_of d) (row_pairs rest)

abbrev pub data_of : List rust.Datum → Data
data_of [] = no_more
data_of (d ∷ ds) = more (datum_of d) (data_of ds)

abbrev pub pairs_of : List (String Global × rust.Datum) → Pairs
pairs_of [] = no_pairs
pairs_of (p ∷ ps) = pair (string_bytes p.0) (datum_of p.1) (pairs_of ps)
