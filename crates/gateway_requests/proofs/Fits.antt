-- What an answer of a walk says of the path: the pattern of some row with that key fits it.
use Rattle.std.proofs.Common.{◌≡◌, ◌-◌, ◌<◌, ◌≤◌, ◌++◌, ◌∙◌, ◌⊎◌, inl, inr, ℕ, zero, suc, List, [], ◌∷◌, length, take, drop, Option, Some, None, Bool, true, false, cond, refl, sym, ap, ltb, ◌==◌, arith, append-nil, take-append-drop, length-drop}
use Rattle.std.proofs.lemmas.Bool.Decides.{nat_tests}
use Rattle.matchit.specs.Rows.{RowsOf, param_token, catch_all_token}
use Rattle.matchit.specs.Seek.{own, step, or_else, seek, first, param_step, segment, has_slash, same_text, longest_suffix, with_suffix}
use Rattle.gateway_requests.specs.Paths.{IsSegment}
use Rattle.gateway_requests.proofs.Walks.{seek-nil, seek-drop, longest-short, drop-length, no_slash-whole, no_slash-part}

-- the texts that a token matches
abbrev pub StandsFor : ℕ → List ℕ → Type 0
StandsFor x text = (text ≡ x ∷ []) ⊎ (((x ≡ param_token) × IsSegment text) ⊎ (x ≡ catch_all_token))

-- the tokens match the parts of the path, one after another
unfoldable pub Fits : List ℕ → List ℕ → Type 0
Fits [] path = path ≡ []
Fits (x ∷ t) path = (text : List ℕ) × (rest : List ℕ) × (path ≡ text ++ rest) × StandsFor x text × Fits t rest

module _ {K : Type 0} where
  -- the pattern of a row with this key fits the path
  abbrev pub SomeFits : RowsOf K → K → List ℕ → Type 0
  SomeFits [] key path = ⊥
  SomeFits ((t, k) ∷ rest) key path = ((k ≡ key) × Fits t path) ⊎ SomeFits rest key path

  own-fits : (rs : RowsOf K) (key : K) → own rs ≡ Some key → SomeFits rs key []
  unfolding Fits
  own-fits [] key e = absurd (let no : ⊥ = cc in no)
  own-fits (([], k) ∷ rest) key e = inl (let same : k ≡ key = cc in same, refl)
  own-fits ((x ∷ t, k) ∷ rest) key e = inr (own-fits rest key e)

  step-fits : (b : ℕ) (rs : RowsOf K) (key : K) (path : List ℕ) → SomeFits (step b rs) key path
      → SomeFits rs key (b ∷ path)
  unfolding Fits
  step-fits b [] key path f = f
  step-fits b (([], k) ∷ rest) key path f = inr (step-fits b rest key path f)
  step-fits b ((x ∷ t, k) ∷ rest) key path f = by (x == b) refl f (step-fits b rest key path)
    where
      by : (v : Bool) → (x == b) ≡ v → SomeFits (cond v ((t, k) ∷ step b rest) (step b rest)) key path
          → (SomeFits (step b rest) key path → SomeFits rest key (b ∷ path))
          → SomeFits ((x ∷ t, k) ∷ rest) key (b ∷ path)
      by true e (inl h) later =
          let same : b ≡ x = grind (arith, nat_tests) in
          inl (h.0, (b ∷ [], path, refl, inl (rw same refl), h.1))
      by true e (inr h) later = inr (later h)
      by false e h later = inr (later h)

  param-fits : (rs : RowsOf K) (key : K) (text rest : List ℕ) → IsSegment text
      → SomeFits (step param_token rs) key rest → SomeFits rs key (text ++ rest)
  unfolding Fits
  param-fits [] key text rest is f = f
  param-fits (([], k) ∷ rs) key text rest is f = inr (param-fits rs key text rest is f)
  param-fits ((x ∷ t, k) ∷ rs) key text rest is f = by (x == param_token) refl f (param-fits rs key text rest is)
    where
      by : (v : Bool) → (x == param_token) ≡ v
          → SomeFits (cond v ((t, k) ∷ step param_token rs) (step param_token rs)) key rest
          → (SomeFits (step param_token rs) key rest → SomeFits rs key (text ++ rest))
          → SomeFits ((x ∷ t, k) ∷ rs) key (text ++ rest)
      by true e (inl h) later =
          let same : x ≡ param_token = grind (arith, nat_tests) in
          inl (h.0, (text, rest, refl, inr (inl (same, is)), h.1))
      by true e (inr h) later = inr (later h)
      by false e h later = inr (later h)

  catch-fits : (rs : RowsOf K) (key : K) (path : List ℕ) → own (step catch_all_token rs) ≡ Some key
      → SomeFits rs key path
  unfolding Fits
  catch-fits [] key path e = absurd (let no : ⊥ = cc in no)
  catch-fits (([], k) ∷ rs) key path e = inr (catch-fits rs key path e)
  catch-fits ((x ∷ t, k) ∷ rs) key path e = by t (x == catch_all_token) refl e (catch-fits rs key path)
    where
      by : (t : List ℕ) (v : Bool) → (x == catch_all_token) ≡ v
          → own (cond v ((t, k) ∷ step catch_all_token rs) (step catch_all_token rs)) ≡ Some key
          → (own (step catch_all_token rs) ≡ Some key → SomeFits rs key path) → SomeFits ((x ∷ t, k) ∷ rs) key path
      by [] true e q later =
          let same : x ≡ catch_all_token = grind (arith, nat_tests) in
          inl (let is : k ≡ key = cc in is, (path, [], sym (append-nil path), inr (inr same), refl))
      by (y ∷ t) true e q later = inr (later q)
      by t false e q later = inr (later q)

  suffix-fits : (suffix : List ℕ) (rs : RowsOf K) (key : K) (path : List ℕ)
      → SomeFits (with_suffix suffix rs) key path → SomeFits rs key path
  suffix-fits suffix [] key path f = f
  suffix-fits suffix ((t, k) ∷ rs) key path f = by (same_text (segment t) suffix) f (suffix-fits suffix rs key path)
    where
      by : (v : Bool) → SomeFits (cond v ((t, k) ∷ with_suffix suffix rs) (with_suffix suffix rs)) key path
          → (SomeFits (with_suffix suffix rs) key path → SomeFits rs key path) → SomeFits ((t, k) ∷ rs) key path
      by true (inl h) later = inl h
      by true (inr h) later = inr (later h)
      by false h later = inr (later h)

  -- the path is a segment, which a parameter takes, and then something that a row fits
  record Takes (rs : RowsOf K) (key : K) (path : List ℕ) : Type 0 where
    text : List ℕ
    rest : List ℕ
    whole : path ≡ text ++ rest
    is : IsSegment text
    fits : SomeFits rs key rest

  -- what this answer says of each path that is not longer than this one
  abbrev UpTo : K → List ℕ → Type 0
  UpTo key path =
      (some : RowsOf K) (rest : List ℕ) → length rest ≤ length path
      → seek 0 some rest ≡ Some key → SomeFits some key rest

  taken : (rs : RowsOf K) (key : K) (b : ℕ) (path : List ℕ)
      → UpTo key path
      → seek ((param_step rs (b ∷ path)).0 - 1) (param_step rs (b ∷ path)).1 path ≡ Some key → Takes rs key (b ∷ path)
  unfolding param_step seek
  taken rs key b path later e = by (ltb 0 (length suffix)) refl (has_slash (b ∷ path)) refl e
    where
      suffix : List ℕ
      suffix = longest_suffix (segment (b ∷ path)) rs

      cut : ℕ
      cut = length (segment (b ∷ path)) - length suffix

      some : RowsOf K
      some = with_suffix suffix rs

      step_of : Bool → Bool → ℕ × RowsOf K
      step_of u v = cond u (cut, some) (cond v (0, []) (length (b ∷ path), rs))

      short : 0 < length suffix → length suffix < length (segment (b ∷ path))
      short l =
          elim (longest-short (segment (b ∷ path)) [] rs (inl refl)) [
            | inl none ↦ absurd (omega arith)
            | inr h ↦ h
          ]

      by : (u : Bool) → ltb 0 (length suffix) ≡ u → (v : Bool) → has_slash (b ∷ path) ≡ v
          → seek ((step_of u v).0 - 1) (step_of u v).1 path ≡ Some key → Takes rs key (b ∷ path)
      by true p v q e =
          let l : 0 < length suffix = grind (arith, nat_tests) in
          let m : length suffix < length (segment (b ∷ path)) = short l in
          let before : suc (cut - 1) < length (segment (b ∷ path)) = omega arith in
          let found : seek 0 some (drop (cut - 1) path) ≡ Some key = sym (seek-drop (cut - 1) some path) ∙ e in
          let fewer : length (drop (cut - 1) path) ≤ length path = omega (arith, length-drop (cut - 1) path) in
          record {
            text = b ∷ take (cut - 1) path;
            rest = drop (cut - 1) path;
            whole = ap (λ p. b ∷ p) (sym (take-append-drop (cut - 1) path));
            is = record { some = omega arith; no_slash = no_slash-part (suc (cut - 1)) (b ∷ path) before };
            fits = suffix-fits suffix rs key (drop (cut - 1) path) (later some (drop (cut - 1) path) fewer found);
          }
      by false p true q e =
          let none = seek-nil {K = K} (0 - 1) path in
          absurd (let no : ⊥ = cc in no)
      by false p false q e =
          let all : suc (length path) - 1 ≡ length path = omega arith in
          let found : own rs ≡ Some key = rw (all, seek-drop (length path) rs path, drop-length path) at e in
          record {
            text = b ∷ path;
            rest = [];
            whole = sym (append-nil (b ∷ path));
            is = record { some = omega arith; no_slash = no_slash-whole (b ∷ path) q };
            fits = own-fits rs key found;
          }

  fits-within : (n : ℕ) (rs : RowsOf K) (path : List ℕ) (key : K) → length path ≤ n → seek 0 rs path ≡ Some key
      → SomeFits rs key path
  unfolding seek
  fits-within n rs [] key l e = own-fits rs key e
  fits-within zero rs (b ∷ path) key l e = absurd (omega arith)
  fits-within (suc n) rs (b ∷ path) key l e =
      by (seek 0 (step b rs) path) (seek (next.0 - 1) next.1 path) (own (step catch_all_token rs)) refl refl refl e
      (fits-within n (step b rs) path key (omega arith))
      (λ (some : RowsOf K) (rest : List ℕ) (fewer : length rest ≤ length path).
      fits-within n some rest key (omega arith))
    where
      next : ℕ × RowsOf K
      next = param_step (step param_token rs) (b ∷ path)

      by : (x y z : Option K) → seek 0 (step b rs) path ≡ x → seek (next.0 - 1) next.1 path ≡ y
          → own (step catch_all_token rs) ≡ z
          → or_else x (or_else y z) ≡ Some key
          → (seek 0 (step b rs) path ≡ Some key → SomeFits (step b rs) key path)
          → UpTo key path
          → SomeFits rs key (b ∷ path)
      by (Some k) y z p q r e literal later = step-fits b rs key path (literal (p ∙ e))
      by None (Some k) z p q r e literal later =
          let t = taken (step param_token rs) key b path later (q ∙ e) in
          rw t.whole (param-fits rs key t.text t.rest t.is t.fits)
      by None None z p q r e literal later = catch-fits rs key (b ∷ path) (r ∙ e)

  -- the pattern of some row with the answer for its key fits the path
  pub first-fits : (rs : RowsOf K) (path : List ℕ) (key : K) → first rs path ≡ Some key → SomeFits rs key path
  first-fits rs path key e = fits-within (length path) rs path key (omega arith) e
