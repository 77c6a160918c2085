-- A walk along a literal, and over a parameter that takes a segment.
use Rattle.std.proofs.Common.{◌≡◌, ◌≢◌, ◌+◌, ◌-◌, ◌<◌, ◌++◌, ◌∙◌, ℕ, suc, List, [], ◌∷◌, length, drop, T, zero, Bool, true, false, refl, ap, nat_eq, ltb, ◌==◌, ◌&&◌, not, arith, length-append}
use Rattle.std.proofs.Math.Seq.{drop-append_seam}
use Rattle.std.proofs.lemmas.Bool.Decides.{nat_tests}
use Rattle.std.specs.Cmp.Lexicographic.{bytes_decides}
use Rattle.std.specs.List.{ends_with}
use Rattle.std.specs.Path.{HasNoSlash, has_no_slash}
use Rattle.matchit.specs.Level.{IsText}
use Rattle.matchit.specs.Rows.{RowsOf, param_token, catch_all_token}
use Rattle.matchit.specs.Seek.{own, step, seek, param_step, segment, has_slash, longest_suffix, with_suffix, cuts, slash}
use Rattle.gateway_requests.specs.Paths.{IsSegment}
use Rattle.gateway_requests.proofs.Walks.{or_else-none, param_step-nil, seek-nil, seek-drop, drop-length}

-- a slash alone
abbrev pub slash_alone : List ℕ
slash_alone = slash ∷ []

module _ {K : Type 0} where
  -- the rows that go on with a literal, with the literal gone
  abbrev pub steps : List ℕ → RowsOf K → RowsOf K
  steps [] rs = rs
  steps (b ∷ w) rs = steps w (step b rs)

  -- how many rows have something else than a byte on the way along a literal
  abbrev pub wild_along : List ℕ → RowsOf K → ℕ
  wild_along [] rs = 0
  wild_along (b ∷ w) rs = length (step param_token rs) + length (step catch_all_token rs) + wild_along w (step b rs)

  none-of : (rs : RowsOf K) → length rs ≡ 0 → rs ≡ []
  none-of [] e = refl
  none-of (row ∷ rs) e = absurd (omega arith)

  along-byte : (rs : RowsOf K) (b : ℕ) (path : List ℕ) → step param_token rs ≡ [] → step catch_all_token rs ≡ []
      → seek 0 rs (b ∷ path) ≡ seek 0 (step b rs) path
  unfolding seek
  along-byte rs b path p c =
      let skip = (param_step {K = K} [] (b ∷ path)).0 - 1 in
      simp (p, c, param_step-nil {K = K} (b ∷ path), seek-nil {K = K} skip path, or_else-none)

  pub along : (w : List ℕ) (rs : RowsOf K) (path : List ℕ) → wild_along w rs ≡ 0
      → seek 0 rs (w ++ path) ≡ seek 0 (steps w rs) path
  along [] rs path e = refl
  along (b ∷ w) rs path e =
      along-byte rs b (w ++ path)
      (none-of (step param_token rs) (omega arith))
      (none-of (step catch_all_token rs) (omega arith))
      ∙ along w (step b rs) path (omega arith)

  -- the rows after a parameter
  abbrev pub after_any : RowsOf K → RowsOf K
  after_any [] = []
  after_any ((t, key) ∷ rest) = (param_token ∷ t, key) ∷ after_any rest

  step-any : (rs : RowsOf K) → step param_token (after_any rs) ≡ rs
  step-any [] = refl
  step-any ((t, key) ∷ rest) = ap (λ r. (t, key) ∷ r) (step-any rest)

  step-other : (b : ℕ) (rs : RowsOf K) → param_token ≢ b → step b (after_any rs) ≡ []
  step-other b [] n = refl
  step-other b ((t, key) ∷ rest) n =
      let e : (param_token == b) ≡ false = grind (arith, nat_tests) in
      rw e (step-other b rest n)

  seek-any : (rs : RowsOf K) (b : ℕ) (path : List ℕ) → b < 256
      → seek 0 (after_any rs) (b ∷ path) ≡ seek ((param_step rs (b ∷ path)).0 - 1) (param_step rs (b ∷ path)).1 path
  unfolding seek
  seek-any rs b path l =
      let n : param_token ≢ b = λ e. omega arith in
      let m : param_token ≢ catch_all_token = λ e. omega arith in
      simp (step-any rs, step-other b rs n, step-other catch_all_token rs m, seek-nil {K = K} 0 path, or_else-none)

-- a text with no slash
no_slash-parts : (b : ℕ) (s : List ℕ) → HasNoSlash (b ∷ s) → ((b == slash) ≡ false) × HasNoSlash s
no_slash-parts b s h = by (b == slash) refl h
  where
    by : (v : Bool) → (b == slash) ≡ v → T (not v && has_no_slash s) → ((b == slash) ≡ false) × HasNoSlash s
    by true e h = absurd h
    by false e h = (e, h)

no_slash-drop : (n : ℕ) (s : List ℕ) → HasNoSlash s → HasNoSlash (drop n s)
no_slash-drop zero s h = h
no_slash-drop (suc n) [] h = h
no_slash-drop (suc n) (b ∷ s) h = no_slash-drop n s (no_slash-parts b s h).1

no_slash-test : (s : List ℕ) → HasNoSlash s → has_slash s ≡ false
no_slash-test [] h = refl
no_slash-test (b ∷ s) h =
    let p = no_slash-parts b s h in
    rw p.0 (no_slash-test s p.1)

-- the first segment of a path
segment-whole : (s : List ℕ) → HasNoSlash s → segment s ≡ s
segment-whole [] h = refl
segment-whole (b ∷ s) h =
    let p = no_slash-parts b s h in
    rw p.0 (ap (λ r. b ∷ r) (segment-whole s p.1))

segment-cut : (s rest : List ℕ) → HasNoSlash s → segment (s ++ slash ∷ rest) ≡ s ++ slash_alone
segment-cut [] rest h = refl
segment-cut (b ∷ s) rest h =
    let p = no_slash-parts b s h in
    rw p.0 (ap (λ r. b ∷ r) (segment-cut s rest p.1))

-- whether a slash alone ends the first segment
pub no_cut : (s : List ℕ) → IsSegment s → cuts s slash_alone ≡ false
no_cut s is = by (ends_with nat_eq s slash_alone) refl
  where
    by : (v : Bool) → ends_with nat_eq s slash_alone ≡ v → cuts s slash_alone ≡ false
    by true e =
        let same : slash_alone ≡ drop (length s - 1) s = (bytes_decides slash_alone (drop (length s - 1) s)).0 e in
        let none : HasNoSlash (drop (length s - 1) s) = no_slash-drop (length s - 1) s is.no_slash in
        absurd (rw (← same) at none)
    by false e = grind (arith, nat_tests)

pub slash_cuts : (s : List ℕ) → IsSegment s → cuts (s ++ slash_alone) slash_alone ≡ true
slash_cuts s is =
    let some : 0 < length s = is.some in
    let more : length (s ++ slash_alone) ≡ length s + 1 = length-append s slash_alone in
    let before : length s + 1 - 1 ≡ length s = omega arith in
    let longer : ltb 1 (length s + 1) ≡ true = grind (arith, nat_tests) in
    rw (more, before, longer, drop-append_seam s slash_alone) refl

module _ {K : Type 0} where
  -- a segment that ends the path
  pub any-ends : (rs : RowsOf K) (s : List ℕ) → IsText s → IsSegment s → longest_suffix s rs ≡ []
      → seek 0 (after_any rs) s ≡ own rs
  unfolding seek param_step
  any-ends rs [] text is none = absurd (let l : 0 < 0 = is.some in omega arith)
  any-ends rs (b ∷ s) text is none =
      let one : suc (length s) - 1 ≡ length s = omega arith in
      seek-any rs b s text.0
      ∙ rw (
        segment-whole (b ∷ s) is.no_slash,
        none,
        no_slash-test (b ∷ s) is.no_slash,
        one,
        seek-drop (length s) rs s,
        drop-length s,
      ) refl

  -- a segment with a slash after it
  pub any-goes_on : (rs : RowsOf K) (s rest : List ℕ) → IsText s → IsSegment s
      → longest_suffix (s ++ slash_alone) rs ≡ slash_alone
      → seek 0 (after_any rs) (s ++ slash ∷ rest) ≡ seek 0 (with_suffix slash_alone rs) (slash ∷ rest)
  unfolding param_step
  any-goes_on rs [] rest text is longest = absurd (let l : 0 < 0 = is.some in omega arith)
  any-goes_on rs (b ∷ s) rest text is longest =
      let cut : length (b ∷ s ++ slash_alone) - 1 - 1 ≡ length s = omega (arith, length-append s slash_alone) in
      seek-any rs b (s ++ slash ∷ rest) text.0
      ∙ rw (
        segment-cut (b ∷ s) rest is.no_slash,
        longest,
        cut,
        seek-drop (length s) (with_suffix slash_alone rs) (s ++ slash ∷ rest),
        drop-append_seam s (slash ∷ rest),
      ) refl
