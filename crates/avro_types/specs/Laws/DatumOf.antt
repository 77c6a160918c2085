-- The tree of a datum that holds others is made of theirs.
use Rattle.std.proofs.Common.{◌≡◌, ap, ◌∙◌, refl, String, Global, string_bytes}
use Rattle.std.specs.Global.{Vec}
use mathlib.Core.Former.{Count}
use Rattle.avro_types.specs.declared.datum.Datum as rust
use Rattle.spec_avro.specs.Datum.{ArrayDatum, MapDatum, RecordDatum, more, pair}
use Rattle.avro_types.specs.Datum.{datum_of, data_of, pairs_of, row_data, row_pairs}

abbrev row_of : rust.Datum → (n : Count) × rust.Row_of-Datum n
row_of (rust.Record' _ row) = (_, row)
row_of (rust.Array' _ row) = (_, row)
row_of _ = (_, rust.end_of-Datum)

abbrev row_of_pairs : rust.Datum → (n : Count) × rust.Row_of-Datum-Map-0-2 n
row_of_pairs (rust.Map' _ row) = (_, row)
row_of_pairs _ = (_, rust.end_of-Datum-Map-0-2)

row_data-items : (n : _) (row : rust.Row_of-Datum n) → row_data row ≡ data_of (rust.items-the_row-Datum n row)
row_data-items n rust.end_of-Datum = refl
row_data-items n (rust.more_of-Datum d rest) = ap (more (datum_of d)) (row_data-items _ rest)

row_pairs-items : (n : _) (row : rust.Row_of-Datum-Map-0-2 n) → row_pairs row ≡ pairs_of (rust.items-the_row-Datum-Map-0-2 n row)
row_pairs-items n rust.end_of-Datum-Map-0-2 = refl
row_pairs-items n (rust.more_of-Datum-Map-0-2 key d rest) = ap (pair (string_bytes key) (datum_of d)) (row_pairs-items _ rest)

pub datum_of-Record : (v : Vec rust.Datum) → datum_of (rust.Record v) ≡ RecordDatum (data_of v.items)
datum_of-Record v =
    let row = row_of (rust.Record v) in
    ap RecordDatum (row_data-items row.0 row.1 ∙ ap data_of (rust.items_hidden-the_row-Datum-0 v))

pub datum_of-Array : (v : Vec rust.Datum) → datum_of (rust.Array v) ≡ ArrayDatum (data_of v.items)
datum_of-Array v =
    let row = row_of (rust.Array v) in
    ap ArrayDatum (row_data-items row.0 row.1 ∙ ap data_of (rust.items_hidden-the_row-Datum-0 v))

pub datum_of-Map : (v : Vec (String Global × rust.Datum)) → datum_of (rust.Map v) ≡ MapDatum (pairs_of v.items)
datum_of-Map v =
    let row = row_of_pairs (rust.Map v) in
    ap MapDatum (row_pairs-items row.0 row.1 ∙ ap pairs_of (rust.items_hidden-the_row-Datum-Map-0-2-1 v))
