-- The bytes of what resolution makes of items and values are those of each, in order.
use Rattle.std.proofs.Common.{◌≡◌, ℕ, suc, ◌+◌, List, [], ◌∷◌, ◌++◌, length, Ok, Err, refl, sym, ap, ◌∙◌, arith, append_assoc, append-nil}
use Rattle.spec_avro.specs.Written.{after_length, in_block}
use Rattle.spec_avro.specs.Node.{Node}
use Rattle.spec_avro.specs.Datum.{Datum, Data, Pairs, ArrayDatum, MapDatum, more, pair, how_many, how_many_pairs}
use Rattle.avro_datum.specs.Decoding.{data_from, pairs_from}
use Rattle.spec_avro.specs.Writing.{written, written_data, written_pairs}
use Rattle.spec_avro.specs.Resolution.{Resolved, ◌>>=◌, resolved, resolved_items, resolved_values}

abbrev pub bytes_of : Resolved Datum → Resolved (List ℕ)
bytes_of res = res >>= λ d. Ok (written d)

-- bytes after others, where neither is a mismatch
abbrev pub both : Resolved (List ℕ) → Resolved (List ℕ) → Resolved (List ℕ)
both first second = first >>= λ x. second >>= λ y. Ok (x ++ y)

-- the bytes of all, by those of each
abbrev pub effects : {A : Type 0} → (A → Resolved (List ℕ)) → List A → Resolved (List ℕ)
effects effect [] = Ok []
effects effect (v ∷ vs) = both (effect v) (effects effect vs)

-- ---- in one block: what came before, and the bytes of all others

abbrev pub in_one : {A : Type 0} → (A → Resolved (List ℕ)) → ℕ → Resolved (List ℕ) → List A → Resolved (List ℕ)
in_one effect n acc vs = acc >>= λ x. effects effect vs >>= λ y. Ok (in_block (n + length vs) (x ++ y))

pub in_one_none : {A : Type 0} (effect : A → Resolved (List ℕ)) (n : ℕ) (acc : Resolved (List ℕ)) → (acc >>= λ x. Ok (in_block n x)) ≡ in_one effect n acc []
in_one_none effect n (Err m) = refl
in_one_none effect n (Ok x) = let z : n ≡ n + 0 = omega arith in ap (λ (k : ℕ). Ok (in_block k x)) z ∙ ap (λ (l : List ℕ). Ok (in_block (n + 0) l)) (sym (append-nil x))

pub in_one_more : {A : Type 0} (effect : A → Resolved (List ℕ)) (n : ℕ) (acc : Resolved (List ℕ)) (v : A) (vs : List A) → in_one effect (n + 1) (acc >>= λ c. effect v >>= λ x. Ok (c ++ x)) vs ≡ in_one effect n acc (v ∷ vs)
in_one_more effect n (Err m) v vs = refl
in_one_more effect n (Ok c) v vs = by_first (effect v) (effects effect vs)
  where
    by_first : (first rest : Resolved (List ℕ)) → ((first >>= λ x. Ok (c ++ x)) >>= λ x. rest >>= λ y. Ok (in_block (n + 1 + length vs) (x ++ y))) ≡ (both first rest >>= λ y. Ok (in_block (n + suc (length vs)) (c ++ y)))
    by_first (Err m) rest = refl
    by_first (Ok x) (Err m) = refl
    by_first (Ok x) (Ok y) = let z : n + 1 + length vs ≡ n + suc (length vs) = omega arith in ap (λ (k : ℕ). Ok (in_block k ((c ++ x) ++ y))) z ∙ ap (λ (l : List ℕ). Ok (in_block (n + suc (length vs)) l)) (append_assoc c x y)

-- a count that is that of the result
abbrev HasAsMany : {A : Type 0} → (A → ℕ) → ℕ → Resolved A → Type 0
HasAsMany count n (Ok a) = count a ≡ n
HasAsMany count n (Err m) = Unit {0}

module _ (W R : List Node) (i j : ℕ) where
  abbrev pub item : Datum → Resolved (List ℕ)
  item d = bytes_of (resolved W R i j d)

  abbrev pub value : List ℕ × Datum → Resolved (List ℕ)
  value p = both (Ok (after_length p.0)) (item p.1)

  -- ---- items

  items_are : (ds : List Datum) → effects item ds ≡ (resolved_items W R i j (data_from ds) >>= λ es. Ok (written_data es))
  unfolding resolved written
  items_are [] = refl
  items_are (d ∷ ds) = by_first (resolved W R i j d) (items_are ds)
    where
      behind : (e : Datum) (rest : Resolved Data) → ((rest >>= λ es. Ok (written_data es)) >>= λ y. Ok (written e ++ y)) ≡ ((rest >>= λ es. Ok (more e es)) >>= λ es. Ok (written_data es))
      behind e (Ok es) = refl
      behind e (Err m) = refl

      by_first : (first : Resolved Datum) → effects item ds ≡ (resolved_items W R i j (data_from ds) >>= λ es. Ok (written_data es)) → both (bytes_of first) (effects item ds) ≡ ((first >>= λ e. resolved_items W R i j (data_from ds) >>= λ es. Ok (more e es)) >>= λ es. Ok (written_data es))
      by_first (Err m) h = refl
      by_first (Ok e) h = ap (λ (r : Resolved (List ℕ)). r >>= λ y. Ok (written e ++ y)) h ∙ behind e (resolved_items W R i j (data_from ds))

  as_many_items : (ds : List Datum) → HasAsMany how_many (length ds) (resolved_items W R i j (data_from ds))
  unfolding resolved
  as_many_items [] = refl
  as_many_items (d ∷ ds) = by_first (resolved W R i j d) (resolved_items W R i j (data_from ds)) (as_many_items ds)
    where
      by_first : (first : Resolved Datum) (rest : Resolved Data) → HasAsMany how_many (length ds) rest → HasAsMany how_many (suc (length ds)) (first >>= λ e. rest >>= λ es. Ok (more e es))
      by_first (Err m) rest h = tt
      by_first (Ok e) (Err m) h = tt
      by_first (Ok e) (Ok es) h = ap suc h

  pub array_bytes : (ds : List Datum) → (effects item ds >>= λ y. Ok (in_block (length ds) y)) ≡ bytes_of (resolved_items W R i j (data_from ds) >>= λ es. Ok (ArrayDatum es))
  unfolding written
  array_bytes ds = ap (λ (r : Resolved (List ℕ)). r >>= λ y. Ok (in_block (length ds) y)) (items_are ds) ∙ by_all (resolved_items W R i j (data_from ds)) (as_many_items ds)
    where
      by_all : (res : Resolved Data) → HasAsMany how_many (length ds) res → ((res >>= λ es. Ok (written_data es)) >>= λ y. Ok (in_block (length ds) y)) ≡ bytes_of (res >>= λ es. Ok (ArrayDatum es))
      by_all (Ok es) h = ap (λ (n : ℕ). Ok (in_block n (written_data es))) (sym h)
      by_all (Err m) h = refl

  -- ---- values

  values_are : (ps : List (List ℕ × Datum)) → effects value ps ≡ (resolved_values W R i j (pairs_from ps) >>= λ qs. Ok (written_pairs qs))
  unfolding resolved written
  values_are [] = refl
  values_are (p ∷ ps) = by_first (resolved W R i j p.1) (values_are ps)
    where
      behind : (e : Datum) (rest : Resolved Pairs) → ((rest >>= λ qs. Ok (written_pairs qs)) >>= λ y. Ok ((after_length p.0 ++ written e) ++ y)) ≡ ((rest >>= λ qs. Ok (pair p.0 e qs)) >>= λ qs. Ok (written_pairs qs))
      behind e (Ok qs) = ap Ok (append_assoc (after_length p.0) (written e) (written_pairs qs))
      behind e (Err m) = refl

      by_first : (first : Resolved Datum) → effects value ps ≡ (resolved_values W R i j (pairs_from ps) >>= λ qs. Ok (written_pairs qs)) → both (both (Ok (after_length p.0)) (bytes_of first)) (effects value ps) ≡ ((first >>= λ e. resolved_values W R i j (pairs_from ps) >>= λ qs. Ok (pair p.0 e qs)) >>= λ qs. Ok (written_pairs qs))
      by_first (Err m) h = refl
      by_first (Ok e) h = ap (λ (r : Resolved (List ℕ)). r >>= λ y. Ok ((after_length p.0 ++ written e) ++ y)) h ∙ behind e (resolved_values W R i j (pairs_from ps))

  as_many_values : (ps : List (List ℕ × Datum)) → HasAsMany how_many_pairs (length ps) (resolved_values W R i j (pairs_from ps))
  unfolding resolved
  as_many_values [] = refl
  as_many_values (p ∷ ps) = by_first (resolved W R i j p.1) (resolved_values W R i j (pairs_from ps)) (as_many_values ps)
    where
      by_first : (first : Resolved Datum) (rest : Resolved Pairs) → HasAsMany how_many_pairs (length ps) rest → HasAsMany how_many_pairs (suc (length ps)) (first >>= λ e. rest >>= λ qs. Ok (pair p.0 e qs))
      by_first (Err m) rest h = tt
      by_first (Ok e) (Err m) h = tt
      by_first (Ok e) (Ok qs) h = ap suc h

  pub map_bytes : (ps : List (List ℕ × Datum)) → (effects value ps >>= λ y. Ok (in_block (length ps) y)) ≡ bytes_of (resolved_values W R i j (pairs_from ps) >>= λ qs. Ok (MapDatum qs))
  unfolding written
  map_bytes ps = ap (λ (r : Resolved (List ℕ)). r >>= λ y. Ok (in_block (length ps) y)) (values_are ps) ∙ by_all (resolved_values W R i j (pairs_from ps)) (as_many_values ps)
    where
      by_all : (res : Resolved Pairs) → HasAsMany how_many_pairs (length ps) res → ((res >>= λ qs. Ok (written_pairs qs)) >>= λ y. Ok (in_block (length ps) y)) ≡ bytes_of (res >>= λ qs. Ok (MapDatum qs))
      by_all (Ok qs) h = ap (λ (n : ℕ). Ok (in_block n (written_pairs qs))) (sym h)
      by_all (Err m) h = refl
