-- Writing data one after another, and counting their bytes.
use Rattle.std.proofs.Common.{◌≡◌, ℕ, zero, suc, ◌+◌, ◌<◌, arith, List, [], ◌∷◌, ◌++◌, length, drop, get_or, refl, sym, ap, ◌∙◌, append_assoc, pos, Result, Ok, Err, String, Global, string_bytes}
use Rattle.std.proofs.Math.Seq.{drop-cons}
use Rattle.std.proofs.lemmas.List.{length-append}
use Rattle.std.specs.Global.{Vec}
use Rattle.avro_types.specs.declared.datum.Datum as rust
use Rattle.std.specs.Prelude.{OnErr}
use Rattle.avro_types.specs.Datum.{datum_of, data_of, pairs_of}
use Rattle.spec_avro.specs.Datum.{how_many, how_many_pairs}
use Rattle.avro_types.specs.Laws.DatumOf.{datum_of-Array, datum_of-Map, datum_of-Record}
use Rattle.avro_bytes.specs.Shortest.{Extends}
use Rattle.spec_avro.specs.Shortest.{shortest}
use Rattle.avro_datum.proofs.Counts.{block_len}
use Rattle.spec_avro.specs.Written.{after_length, block_count, in_block}
use Rattle.spec_avro.specs.Writing.{written, written_data, written_pairs}

pub record_written : (v : Vec rust.Datum) → written (datum_of (rust.Record v)) ≡ written_data (data_of v.items)
unfolding written
record_written v = ap written (datum_of-Record v)

as_many : (ds : List rust.Datum) → how_many (data_of ds) ≡ length ds
as_many [] = refl
as_many (d ∷ ds) = ap suc (as_many ds)

pub array_written : (v : Vec rust.Datum) → written (datum_of (rust.Array v)) ≡ in_block (length v.items) (written_data (data_of v.items))
unfolding written
array_written v = ap written (datum_of-Array v) ∙ ap (λ (k : ℕ). in_block k (written_data (data_of v.items))) (as_many v.items)

as_many_pairs : (ps : List (String Global × rust.Datum)) → how_many_pairs (pairs_of ps) ≡ length ps
as_many_pairs [] = refl
as_many_pairs (p ∷ ps) = ap suc (as_many_pairs ps)

pub map_written : (v : Vec (String Global × rust.Datum)) → written (datum_of (rust.Map v)) ≡ in_block (length v.items) (written_pairs (pairs_of v.items))
unfolding written
map_written v = ap written (datum_of-Map v) ∙ ap (λ (k : ℕ). in_block k (written_pairs (pairs_of v.items))) (as_many_pairs v.items)

pub written_from : (ds : List rust.Datum) (i : ℕ) (d : rust.Datum) → i < length ds → d ≡ get_or ds i d → written_data (data_of (drop i ds)) ≡ written (datum_of d) ++ written_data (data_of (drop (suc i) ds))
unfolding written
written_from ds i d lt e = ap (λ (x : List rust.Datum). written_data (data_of x)) (drop-cons ds i d lt) ∙ ap (λ (x : rust.Datum). written (datum_of x) ++ written_data (data_of (drop (suc i) ds))) (sym e)

pub pairs_from : (ps : List (String Global × rust.Datum)) (i : ℕ) (p : String Global × rust.Datum) → i < length ps → p ≡ get_or ps i p → written_pairs (pairs_of (drop i ps)) ≡ after_length (string_bytes p.0) ++ (written (datum_of p.1) ++ written_pairs (pairs_of (drop (suc i) ps)))
unfolding written
pairs_from ps i p lt e = ap (λ (x : List (String Global × rust.Datum)). written_pairs (pairs_of x)) (drop-cons ps i p lt) ∙ ap (λ (x : String Global × rust.Datum). after_length (string_bytes x.0) ++ (written (datum_of x.1) ++ written_pairs (pairs_of (drop (suc i) ps)))) (sym e)

pub empty_block : (many : ℕ) → length (in_block many []) ≡ length (block_count many) + 1
empty_block many = block_len many []

pub some_count : (many : ℕ) → 0 < many → length (block_count many) ≡ length (shortest (pos many))
some_count zero some = absurd (omega (arith, some))
some_count (suc n) some = refl

pub no_count : (many : ℕ) → many ≡ 0 → length (block_count many) ≡ 0
no_count many e = rw e refl

pub array_len : (v : Vec rust.Datum) → length (written (datum_of (rust.Array v))) ≡ length (in_block (length v.items) []) + length (written_data (data_of v.items))
array_len v = ap length (array_written v) ∙ omega (arith, block_len (length v.items) (written_data (data_of v.items)), empty_block (length v.items))

pub map_len : (v : Vec (String Global × rust.Datum)) → length (written (datum_of (rust.Map v))) ≡ length (in_block (length v.items) []) + length (written_pairs (pairs_of v.items))
map_len v = ap length (map_written v) ∙ omega (arith, block_len (length v.items) (written_pairs (pairs_of v.items)), empty_block (length v.items))

pub pairs_len_from : (ps : List (String Global × rust.Datum)) (i : ℕ) (p : String Global × rust.Datum) → i < length ps → p ≡ get_or ps i p → length (written_pairs (pairs_of (drop i ps))) ≡ length (after_length (string_bytes p.0)) + (length (written (datum_of p.1)) + length (written_pairs (pairs_of (drop (suc i) ps))))
pairs_len_from ps i p lt e =
    ap length (pairs_from ps i p lt e) ∙ omega (arith, length-append (after_length (string_bytes p.0)) (written (datum_of p.1) ++ written_pairs (pairs_of (drop (suc i) ps))), length-append (written (datum_of p.1)) (written_pairs (pairs_of (drop (suc i) ps))))

-- ---- what is put after what was put

pub extends_on : (a b c : List ℕ) → Extends a b → Extends b c → Extends a c
extends_on a b c e f = (e.0 ++ f.0, f.1 ∙ ap (λ (x : List ℕ). x ++ f.0) e.1 ∙ append_assoc a e.0 f.0)

pub on_any_err : {A E : Type 0} (r : Result A E) (P : Type 0) → P → OnErr r P
on_any_err (Ok a) P p = tt
on_any_err (Err e) P p = p
