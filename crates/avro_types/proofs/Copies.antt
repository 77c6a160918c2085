-- Copies so far, before what is left, are the whole.
use Rattle.std.proofs.Common.{◌≡◌, ℕ, suc, ◌+◌, ◌<◌, List, [], ◌∷◌, ◌++◌, length, drop, get_or, ap, sym, ◌∙◌, add-one, String, Global, string_bytes}
use Rattle.std.proofs.Math.Seq.{drop-cons}
use Rattle.std.specs.Global.{Vec}
use Rattle.avro_types.specs.declared.datum.Datum as rust
use Rattle.spec_avro.specs.Datum.{Datum, Pairs, ArrayDatum, MapDatum, RecordDatum, more, pair}
use Rattle.avro_types.specs.Datum.{datum_of, data_of, pairs_of}
use Rattle.avro_types.specs.Laws.DatumOf.{datum_of-Array, datum_of-Map, datum_of-Record}

-- one datum in another's place
in_place : (front rest : List rust.Datum) (d e : rust.Datum) → datum_of d ≡ datum_of e → data_of ((front ++ d ∷ []) ++ rest) ≡ data_of (front ++ e ∷ rest)
in_place [] rest d e same = ap (λ (t : Datum). more t (data_of rest)) same
in_place (x ∷ front) rest d e same = ap (more (datum_of x)) (in_place front rest d e same)

pub one_more : (front all : List rust.Datum) (i : ℕ) (d e : rust.Datum) → i < length all → e ≡ get_or all i e → datum_of d ≡ datum_of e → data_of ((front ++ d ∷ []) ++ drop (i + 1) all) ≡ data_of (front ++ drop i all)
one_more front all i d e lt is same = rw add-one (in_place front (drop (suc i) all) d e same ∙ ap (λ (x : List rust.Datum). data_of (front ++ x)) (ap (λ (x : rust.Datum). x ∷ drop (suc i) all) is ∙ sym (drop-cons all i e lt)))

abbrev Pair : Type 0
Pair = String Global × rust.Datum

abbrev tree : Pair → Pairs → Pairs
tree p = pair (string_bytes p.0) (datum_of p.1)

pair_in_place : (front rest : List Pair) (p q : Pair) → string_bytes p.0 ≡ string_bytes q.0 → datum_of p.1 ≡ datum_of q.1 → pairs_of ((front ++ p ∷ []) ++ rest) ≡ pairs_of (front ++ q ∷ rest)
pair_in_place [] rest p q key same = cc
pair_in_place (x ∷ front) rest p q key same = ap (tree x) (pair_in_place front rest p q key same)

pub one_pair_more : (front all : List Pair) (i : ℕ) (p q : Pair) → i < length all → q ≡ get_or all i q → string_bytes p.0 ≡ string_bytes q.0 → datum_of p.1 ≡ datum_of q.1 → pairs_of ((front ++ p ∷ []) ++ drop (i + 1) all) ≡ pairs_of (front ++ drop i all)
one_pair_more front all i p q lt is key same = rw add-one (pair_in_place front (drop (suc i) all) p q key same ∙ ap (λ (x : List Pair). pairs_of (front ++ x)) (ap (λ (x : Pair). x ∷ drop (suc i) all) is ∙ sym (drop-cons all i q lt)))

pub record_tree : (v : Vec rust.Datum) → datum_of (rust.Record v) ≡ RecordDatum (data_of v.items)
record_tree v = datum_of-Record v

pub array_tree : (v : Vec rust.Datum) → datum_of (rust.Array v) ≡ ArrayDatum (data_of v.items)
array_tree v = datum_of-Array v

pub map_tree : (v : Vec Pair) → datum_of (rust.Map v) ≡ MapDatum (pairs_of v.items)
map_tree v = datum_of-Map v
