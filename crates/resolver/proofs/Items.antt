-- The loops over items and values: what is done, before what is left.
use Rattle.std.proofs.Common.{◌≡◌, ℕ, List, [], ◌∷◌, ◌++◌, length, Ok, Err, refl, sym, ap, ◌∙◌, arith, String, Global, string_bytes}
use Rattle.std.specs.Global.{Vec}
use Rattle.avro_types.specs.declared.datum.Datum as rust
use Rattle.spec_avro.specs.Node.{Node}
use Rattle.spec_avro.specs.Datum.{Datum, Data, Pairs, no_more, more, no_pairs, pair}
use Rattle.avro_types.specs.Datum.{datum_of, data_of, pairs_of}
use Rattle.resolver.specs.declared.mismatch.ResolveError.{ResolveError}
use Rattle.resolver.specs.declared.mismatch.ResolveError.TheVariants as errors
use Rattle.spec_avro.specs.Resolution.{Resolved, ◌>>=◌, resolved, resolved_items, resolved_values}
use Rattle.resolver.specs.Resolution.{Resolves}

-- data after data
abbrev pub joined : Data → Data → Data
joined no_more es = es
joined (more d ds) es = more d (joined ds es)

abbrev pub joined_pairs : Pairs → Pairs → Pairs
joined_pairs no_pairs qs = qs
joined_pairs (pair key d ps) qs = pair key d (joined_pairs ps qs)

pub joined_end : (ds : Data) → joined ds no_more ≡ ds
joined_end no_more = refl
joined_end (more d ds) = ap (more d) (joined_end ds)

pub joined_push : (front : List rust.Datum) (d : rust.Datum) (es : Data) → joined (data_of (front ++ d ∷ [])) es ≡ joined (data_of front) (more (datum_of d) es)
joined_push [] d es = refl
joined_push (x ∷ front) d es = ap (more (datum_of x)) (joined_push front d es)

abbrev Pair : Type 0
Pair = String Global × rust.Datum

joined_pairs_end : (ps : Pairs) → joined_pairs ps no_pairs ≡ ps
joined_pairs_end no_pairs = refl
joined_pairs_end (pair key d ps) = ap (pair key d) (joined_pairs_end ps)

joined_pairs_push : (front : List Pair) (p : Pair) (qs : Pairs) → joined_pairs (pairs_of (front ++ p ∷ [])) qs ≡ joined_pairs (pairs_of front) (pair (string_bytes p.0) (datum_of p.1) qs)
joined_pairs_push [] p qs = refl
joined_pairs_push (x ∷ front) p qs = ap (pair (string_bytes x.0) (datum_of x.1)) (joined_pairs_push front p qs)

pub no_length : {X : Type 0} (xs : List X) → length xs ≡ 0 → xs ≡ []
no_length [] e = refl
no_length (x ∷ xs) e = absurd (omega arith)

module _ (W R : List Node) (w r : ℕ) where
  -- the items that are left, after those that are done
  abbrev pub Rest : List rust.Datum → List rust.Datum → Resolved Data → Type 0
  Rest front left whole = resolved_items W R w r (data_of left) >>= (λ es. Ok (joined (data_of front) es)) ≡ whole

  pub items_begin : (ds : List rust.Datum) → Rest [] ds (resolved_items W R w r (data_of ds))
  items_begin ds = same (resolved_items W R w r (data_of ds)) where
    same : (x : Resolved Data) → x >>= (λ es. Ok es) ≡ x
    same (Ok es) = refl
    same (Err m) = refl

  module _ (front left : List rust.Datum) (d : rust.Datum) (rest : List rust.Datum) (whole : Resolved Data) (now : Rest front left whole) (next : left ≡ d ∷ rest) where
    after : Resolved Datum → Resolved Data
    after x = (x >>= λ e. resolved_items W R w r (data_of rest) >>= λ es. Ok (more e es)) >>= (λ es. Ok (joined (data_of front) es))

    here : after (resolved W R w r (datum_of d)) ≡ whole
    unfolding resolved_items after
    here = sym (ap (λ (x : List rust.Datum). resolved_items W R w r (data_of x) >>= (λ es. Ok (joined (data_of front) es))) next) ∙ now

    pub item_wrong : (e : ResolveError) → Resolves datum_of (Err e) (resolved W R w r (datum_of d)) → Resolves (λ (v : Vec rust.Datum). data_of v.items) (Err e) whole
    unfolding after
    item_wrong (errors.Mismatch m) h = sym here ∙ ap after h
    item_wrong errors.NoMemory h = tt

    pushed : (x : rust.Datum) (a : Resolved Data) → (a >>= (λ es. Ok (more (datum_of x) es))) >>= (λ es. Ok (joined (data_of front) es)) ≡ a >>= (λ es. Ok (joined (data_of (front ++ x ∷ [])) es))
    pushed x (Ok es) = ap Ok (sym (joined_push front x es))
    pushed x (Err m) = refl

    pub item_on : (x : rust.Datum) (all : List rust.Datum) → all ≡ front ++ x ∷ [] → resolved W R w r (datum_of d) ≡ Ok (datum_of x) → Rest all rest whole
    unfolding after
    item_on x all p h = rw p (sym (pushed x (resolved_items W R w r (data_of rest))) ∙ sym (ap after h) ∙ here)

  pub items_end : (front left : List rust.Datum) (whole : Resolved Data) → Rest front left whole → left ≡ [] → whole ≡ Ok (data_of front)
  unfolding resolved_items
  items_end front left whole now e = sym now ∙ ap (λ (x : List rust.Datum). resolved_items W R w r (data_of x) >>= (λ es. Ok (joined (data_of front) es))) e ∙ ap Ok (joined_end (data_of front))

  -- what `Rest` says, of a map's values
  abbrev pub RestPairs : List Pair → List Pair → Resolved Pairs → Type 0
  RestPairs front left whole = resolved_values W R w r (pairs_of left) >>= (λ qs. Ok (joined_pairs (pairs_of front) qs)) ≡ whole

  pub pairs_begin : (ps : List Pair) → RestPairs [] ps (resolved_values W R w r (pairs_of ps))
  pairs_begin ps = same (resolved_values W R w r (pairs_of ps)) where
    same : (x : Resolved Pairs) → x >>= (λ es. Ok es) ≡ x
    same (Ok es) = refl
    same (Err m) = refl

  module _ (front left : List Pair) (p : Pair) (rest : List Pair) (whole : Resolved Pairs) (now : RestPairs front left whole) (next : left ≡ p ∷ rest) where
    after_pair : Resolved Datum → Resolved Pairs
    after_pair x = (x >>= λ e. resolved_values W R w r (pairs_of rest) >>= λ qs. Ok (pair (string_bytes p.0) e qs)) >>= (λ qs. Ok (joined_pairs (pairs_of front) qs))

    pair_here : after_pair (resolved W R w r (datum_of p.1)) ≡ whole
    unfolding resolved_values after_pair
    pair_here = sym (ap (λ (x : List Pair). resolved_values W R w r (pairs_of x) >>= (λ qs. Ok (joined_pairs (pairs_of front) qs))) next) ∙ now

    pub pair_wrong : (e : ResolveError) → Resolves (λ (x : Pair). datum_of x.1) (Err e) (resolved W R w r (datum_of p.1)) → Resolves (λ (v : Vec Pair). pairs_of v.items) (Err e) whole
    unfolding after_pair
    pair_wrong (errors.Mismatch m) h = sym pair_here ∙ ap after_pair h
    pair_wrong errors.NoMemory h = tt

    pair_pushed : (x : Pair) (a : Resolved Pairs) → x.0 ≡ p.0 → (a >>= (λ qs. Ok (pair (string_bytes p.0) (datum_of x.1) qs))) >>= (λ qs. Ok (joined_pairs (pairs_of front) qs)) ≡ a >>= (λ qs. Ok (joined_pairs (pairs_of (front ++ x ∷ [])) qs))
    pair_pushed x (Ok qs) same = ap Ok (ap (λ (k : String Global). joined_pairs (pairs_of front) (pair (string_bytes k) (datum_of x.1) qs)) (sym same) ∙ sym (joined_pairs_push front x qs))
    pair_pushed x (Err m) same = refl

    pub pair_on : (x : Pair) (all : List Pair) → x.0 ≡ p.0 → all ≡ front ++ x ∷ [] → resolved W R w r (datum_of p.1) ≡ Ok (datum_of x.1) → RestPairs all rest whole
    unfolding after_pair
    pair_on x all same e h = rw e (sym (pair_pushed x (resolved_values W R w r (pairs_of rest)) same) ∙ sym (ap after_pair h) ∙ pair_here)

  pub pairs_end : (front left : List Pair) (whole : Resolved Pairs) → RestPairs front left whole → left ≡ [] → whole ≡ Ok (pairs_of front)
  unfolding resolved_values
  pairs_end front left whole now e = sym now ∙ ap (λ (x : List Pair). resolved_values W R w r (pairs_of x) >>= (λ qs. Ok (joined_pairs (pairs_of front) qs))) e ∙ ap Ok (joined_pairs_end (pairs_of front))
