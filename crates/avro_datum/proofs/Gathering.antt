-- What the parts that a program gathers are, after one more of them, and all together.
use Rattle.std.proofs.Common.{◌≡◌, ℕ, List, [], ◌∷◌, ◌++◌, refl, sym, ap, ◌∙◌, String, Global, string_bytes}
use Rattle.std.proofs.lemmas.List.{map-append}
use Rattle.std.specs.Global.{Vec}
use Rattle.avro_types.specs.declared.datum.Datum as rust
use Rattle.spec_avro.specs.Datum.{Datum, ArrayDatum, MapDatum, RecordDatum, more, pair}
use Rattle.avro_types.specs.Datum.{datum_of, data_of, pairs_of}
use Rattle.avro_types.specs.Laws.DatumOf.{datum_of-Array, datum_of-Map, datum_of-Record}
use Rattle.avro_datum.specs.declared.parts.Parts.{Parts}
use Rattle.avro_datum.specs.declared.parts.Parts.TheVariants.{Fields, Items, Pairs}
use Rattle.avro_datum.specs.declared.parts.Gathered.TheVariants as gathered
use Rattle.avro_datum.specs.Decoding.{data_from, pairs_from}
use Rattle.avro_datum.specs.View.{each_datum, each_pair, pair_of}
use Rattle.avro_datum.specs.Walking.{Holds, Part, part, whole_of}

-- ---- one more

more_data : (ds : List Datum) (d : Datum) (v w : Vec rust.Datum) (x : rust.Datum) → w.items ≡ v.items ++ x ∷ [] → ds ≡ each_datum v.items → d ≡ datum_of x → ds ++ d ∷ [] ≡ each_datum w.items
more_data ds d v w x e h s =
    ap (λ (l : List Datum). l ++ d ∷ []) h ∙ ap (λ (y : Datum). each_datum v.items ++ y ∷ []) s
    ∙ sym (ap each_datum e ∙ map-append datum_of v.items (x ∷ []))

pub field_added : (v w : Vec rust.Datum) (x : rust.Datum) → w.items ≡ v.items ++ x ∷ [] → (p : Parts) (xs : List (Part p)) (k : List ℕ) (d : Datum) → Holds p (gathered.Fields v) xs → d ≡ datum_of x → Holds p (gathered.Fields w) (xs ++ part p k d ∷ [])
field_added v w x e Fields xs k d h s = more_data xs d v w x e h s
field_added v w x e Items xs k d h s = absurd h
field_added v w x e Pairs xs k d h s = absurd h

pub item_added : (v w : Vec rust.Datum) (x : rust.Datum) → w.items ≡ v.items ++ x ∷ [] → (p : Parts) (xs : List (Part p)) (k : List ℕ) (d : Datum) → Holds p (gathered.Items v) xs → d ≡ datum_of x → Holds p (gathered.Items w) (xs ++ part p k d ∷ [])
item_added v w x e Fields xs k d h s = absurd h
item_added v w x e Items xs k d h s = more_data xs d v w x e h s
item_added v w x e Pairs xs k d h s = absurd h

pub pair_added : (v w : Vec (String Global × rust.Datum)) (key : String Global) (x : rust.Datum) → w.items ≡ v.items ++ (key, x) ∷ [] → (p : Parts) (xs : List (Part p)) (k : List ℕ) (d : Datum) → Holds p (gathered.Pairs v) xs → k ≡ string_bytes key → d ≡ datum_of x → Holds p (gathered.Pairs w) (xs ++ part p k d ∷ [])
pair_added v w key x e Fields xs k d h same s = absurd h
pair_added v w key x e Items xs k d h same s = absurd h
pair_added v w key x e Pairs xs k d h same s =
    ap (λ (l : List (List ℕ × Datum)). l ++ (k, d) ∷ []) h ∙ ap (λ (b : List ℕ). each_pair v.items ++ (b, d) ∷ []) same
    ∙ ap (λ (y : Datum). each_pair v.items ++ (string_bytes key, y) ∷ []) s ∙ sym (ap each_pair e ∙ map-append pair_of v.items ((key, x) ∷ []))

-- ---- all together

from_each : (ds : List rust.Datum) → data_from (each_datum ds) ≡ data_of ds
from_each [] = refl
from_each (d ∷ ds) = ap (more (datum_of d)) (from_each ds)

from_each_pair : (ps : List (String Global × rust.Datum)) → pairs_from (each_pair ps) ≡ pairs_of ps
from_each_pair [] = refl
from_each_pair (p ∷ ps) = ap (pair (string_bytes p.0) (datum_of p.1)) (from_each_pair ps)

pub record_whole : (v : Vec rust.Datum) (p : Parts) (xs : List (Part p)) → Holds p (gathered.Fields v) xs → whole_of p xs ≡ datum_of (rust.Record v)
record_whole v Fields xs h = ap (λ (ds : List Datum). RecordDatum (data_from ds)) h ∙ ap RecordDatum (from_each v.items) ∙ sym (datum_of-Record v)
record_whole v Items xs h = absurd h
record_whole v Pairs xs h = absurd h

pub array_whole : (v : Vec rust.Datum) (p : Parts) (xs : List (Part p)) → Holds p (gathered.Items v) xs → whole_of p xs ≡ datum_of (rust.Array v)
array_whole v Fields xs h = absurd h
array_whole v Items xs h = ap (λ (ds : List Datum). ArrayDatum (data_from ds)) h ∙ ap ArrayDatum (from_each v.items) ∙ sym (datum_of-Array v)
array_whole v Pairs xs h = absurd h

pub map_whole : (v : Vec (String Global × rust.Datum)) (p : Parts) (xs : List (Part p)) → Holds p (gathered.Pairs v) xs → whole_of p xs ≡ datum_of (rust.Map v)
map_whole v Fields xs h = absurd h
map_whole v Items xs h = absurd h
map_whole v Pairs xs h = ap (λ (ps : List (List ℕ × Datum)). MapDatum (pairs_from ps)) h ∙ ap MapDatum (from_each_pair v.items) ∙ sym (datum_of-Map v)
