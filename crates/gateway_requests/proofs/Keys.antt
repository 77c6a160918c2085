-- A walk over rows does not look at the rows' keys.
use Rattle.std.proofs.Common.{◌≡◌, ◌-◌, ℕ, zero, suc, List, [], ◌∷◌, length, Option, Some, None, Bool, true, false, cond, refl, ap, ltb, ◌==◌}
use Rattle.std.specs.Prelude.{option_map}
use Rattle.matchit.specs.Rows.{RowsOf, param_token, catch_all_token}
use Rattle.matchit.specs.Seek.{own, step, or_else, seek, param_step, segment, has_slash, same_text, longest_from, longest_suffix, with_suffix, better}

-- the rows with another key in each one's place
abbrev pub with_keys : {K L : Type 0} → (K → L) → RowsOf K → RowsOf L
with_keys f [] = []
with_keys f ((t, key) ∷ rest) = (t, f key) ∷ with_keys f rest

module _ {K L : Type 0} (f : K → L) where
  own-keys : (rs : RowsOf K) → option_map f (own rs) ≡ own (with_keys f rs)
  own-keys [] = refl
  own-keys (([], key) ∷ rest) = refl
  own-keys ((x ∷ t, key) ∷ rest) = own-keys rest

  step-keys : (b : ℕ) (rs : RowsOf K) → step b (with_keys f rs) ≡ with_keys f (step b rs)
  step-keys b [] = refl
  step-keys b (([], key) ∷ rest) = step-keys b rest
  step-keys b ((x ∷ t, key) ∷ rest) =
      by (x == b) (step-keys b rest)
    where
      by : (v : Bool) → step b (with_keys f rest) ≡ with_keys f (step b rest)
          → cond v ((t, f key) ∷ step b (with_keys f rest)) (step b (with_keys f rest))
          ≡ with_keys f (cond v ((t, key) ∷ step b rest) (step b rest))
      by true later = ap (λ r. (t, f key) ∷ r) later
      by false later = later

  longest-keys : (seg best : List ℕ) (rs : RowsOf K) → longest_from seg best (with_keys f rs) ≡ longest_from seg best rs
  longest-keys seg best [] = refl
  longest-keys seg best ((t, key) ∷ rest) = longest-keys seg (better seg best (segment t)) rest

  suffix-keys : (suffix : List ℕ) (rs : RowsOf K)
      → with_suffix suffix (with_keys f rs) ≡ with_keys f (with_suffix suffix rs)
  suffix-keys suffix [] = refl
  suffix-keys suffix ((t, key) ∷ rest) =
      by (same_text (segment t) suffix) (suffix-keys suffix rest)
    where
      by : (v : Bool) → with_suffix suffix (with_keys f rest) ≡ with_keys f (with_suffix suffix rest)
          → cond v ((t, f key) ∷ with_suffix suffix (with_keys f rest)) (with_suffix suffix (with_keys f rest))
          ≡ with_keys f (cond v ((t, key) ∷ with_suffix suffix rest) (with_suffix suffix rest))
      by true later = ap (λ r. (t, f key) ∷ r) later
      by false later = later

  -- a step over a parameter, with the keys in place
  keyed : ℕ × RowsOf K → ℕ × RowsOf L
  keyed r = (r.0, with_keys f r.1)

  param-keys : (rs : RowsOf K) (path : List ℕ) → param_step (with_keys f rs) path ≡ keyed (param_step rs path)
  unfolding param_step keyed
  param-keys rs path =
      let suffix = longest_suffix (segment path) rs in
      rw (longest-keys (segment path) [] rs, suffix-keys suffix rs)
      (by (ltb 0 (length suffix)) (has_slash path) (length (segment path) - length suffix) (with_suffix suffix rs))
    where
      by : (u v : Bool) (n : ℕ) (some : RowsOf K)
          → cond {A = ℕ × RowsOf L} u (n, with_keys f some) (cond v (0, []) (length path, with_keys f rs))
          ≡ keyed (cond u (n, some) (cond v (0, []) (length path, rs)))
      by true v n some = refl
      by false true n some = refl
      by false false n some = refl

  or_else-keys : (a b : Option K) → option_map f (or_else a b) ≡ or_else (option_map f a) (option_map f b)
  or_else-keys None b = refl
  or_else-keys (Some key) b = refl

  pub seek-keys : (skip : ℕ) (rs : RowsOf K) (path : List ℕ)
      → option_map f (seek skip rs path) ≡ seek skip (with_keys f rs) path
  unfolding seek keyed
  seek-keys zero rs [] = own-keys rs
  seek-keys (suc skip) rs [] = own-keys rs
  seek-keys (suc skip) rs (b ∷ path) = seek-keys skip rs path
  seek-keys zero rs (b ∷ path) =
      let taken = param_step (step param_token rs) (b ∷ path) in
      rw (
        or_else-keys (seek 0 (step b rs) path)
            (or_else (seek (taken.0 - 1) taken.1 path) (own (step catch_all_token rs))),
        or_else-keys (seek (taken.0 - 1) taken.1 path) (own (step catch_all_token rs)),
        seek-keys 0 (step b rs) path,
        seek-keys (taken.0 - 1) taken.1 path,
        own-keys (step catch_all_token rs),
        step-keys b rs,
        step-keys param_token rs,
        step-keys catch_all_token rs,
        param-keys (step param_token rs) (b ∷ path),
      ) refl
