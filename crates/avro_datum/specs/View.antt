-- The items and pairs that a program holds, as the decoding of blocks gives them.
use Rattle.std.specs.Prelude.{ℕ, List, map, String, string_bytes}
use Rattle.std.specs.Global.{Global}
use Rattle.avro_types.specs.declared.datum.Datum as rust
use Rattle.spec_avro.specs.Datum.{Datum}
use Rattle.avro_types.specs.Datum.{datum_of}

abbrev pub each_datum : List rust.Datum → List Datum
each_datum ds = map datum_of ds

abbrev pub pair_of : String Global × rust.Datum → List ℕ × Datum
pair_of p = (string_bytes p.0, datum_of p.1)

abbrev pub each_pair : List (String Global × rust.Datum) → List (List ℕ × Datum)
each_pair ps = map pair_of ps
