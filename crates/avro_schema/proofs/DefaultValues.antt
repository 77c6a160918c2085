-- The data of default values, read one after another.
use Rattle.std.proofs.Common.{◌≡◌, ℕ, ◌+◌, ◌<◌, ◌≤◌, List, [], ◌∷◌, ◌++◌, length, drop, get_or, Bool, true, false, ltb, cond, String, string_bytes, Option, Some, None, option_map, refl, sym, ap, ◌∙◌, append_assoc, append-nil, add-one}
use Rattle.std.specs.List.{list_all}
use Rattle.std.proofs.lemmas.Bool.{lt-ltb, le-ltb}
use Rattle.std.specs.Global.{Global}
use Rattle.std.proofs.Math.Seq.{drop-cons}
use Rattle.std.proofs.Math.ListN.{drop_of_length-le}
use Rattle.avro_types.specs.declared.datum.Datum as rust
use Rattle.spec_avro.specs.Datum.{Data, Pairs, no_more, more, no_pairs, pair}
use Rattle.avro_types.specs.Datum.{datum_of, data_of, pairs_of}
use Rattle.avro_schema.proofs.OneByOne.{before}

-- ---- the bytes of a text

abbrev pub bytes_from : List ℕ → Option (List ℕ)
bytes_from cs = cond (list_all (λ c. ltb c 256) cs) (Some cs) None

-- what is read, after what was read before
abbrev pub bytes_after : List ℕ → Option (List ℕ) → Option (List ℕ)
bytes_after front o = option_map (λ bs. front ++ bs) o

push : (b : Bool) (front cs : List ℕ) (c : ℕ) → bytes_after front (cond b (Some (c ∷ cs)) None) ≡ bytes_after (front ++ c ∷ []) (cond b (Some cs) None)
push true front cs c = ap Some (sym (append_assoc front (c ∷ []) cs))
push false front cs c = refl

module _ (cs : List ℕ) (n c : ℕ) (lt : n < length cs) (is : c ≡ get_or cs n c) where
  here : drop n cs ≡ c ∷ drop (n + 1) cs
  here = drop-cons cs n c lt ∙ rw (← is, add-one n)

  pub bytes-on : (front : List ℕ) → c < 256 → bytes_after front (bytes_from (drop n cs)) ≡ bytes_after (front ++ c ∷ []) (bytes_from (drop (n + 1) cs))
  bytes-on front small = rw (here, lt-ltb c 256 small) (push (list_all (λ c. ltb c 256) (drop (n + 1) cs)) front (drop (n + 1) cs) c)

  pub bytes-fail : (front : List ℕ) → 256 ≤ c → bytes_after front (bytes_from (drop n cs)) ≡ None
  bytes-fail front big = rw (here, le-ltb c 256 big) refl

pub bytes-end : (cs : List ℕ) (n : ℕ) → length cs ≤ n → (front : List ℕ) → bytes_after front (bytes_from (drop n cs)) ≡ Some front
bytes-end cs n le front = rw (drop_of_length-le cs le) (ap Some (append-nil front))

-- ---- data and pairs in a row

abbrev pub first_datum : rust.Datum → Data → Data
first_datum d ds = more (datum_of d) ds

abbrev pub first_pair : String Global × rust.Datum → Pairs → Pairs
first_pair p ps = pair (string_bytes p.0) (datum_of p.1) ps

pub before-data : (ds : List rust.Datum) → before first_datum ds no_more ≡ data_of ds
before-data [] = refl
before-data (d ∷ ds) = ap (more (datum_of d)) (before-data ds)

pub before-pairs : (ps : List (String Global × rust.Datum)) → before first_pair ps no_pairs ≡ pairs_of ps
before-pairs [] = refl
before-pairs (p ∷ ps) = ap (pair (string_bytes p.0) (datum_of p.1)) (before-pairs ps)
