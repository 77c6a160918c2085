-- The steps of a walk over rows, whatever their keys are.
use Rattle.std.proofs.Common.{◌≡◌, ◌-◌, ◌<◌, ◌⊎◌, inr, ℕ, zero, suc, List, [], ◌∷◌, length, take, drop, Option, Some, None, Bool, true, false, cond, refl, ltb, ◌==◌, ◌&&◌, arith}
use Rattle.std.proofs.lemmas.Bool.Decides.{nat_tests}
use Rattle.std.specs.Path.{HasNoSlash}
use Rattle.matchit.specs.Rows.{RowsOf}
use Rattle.matchit.specs.Seek.{or_else, seek, param_step, segment, has_slash, longest_from, better, cuts, slash}

-- the longest suffix leaves at least one byte in front of it
better-short : (seg best s : List ℕ) → (length best ≡ 0) ⊎ (length best < length seg)
    → (length (better seg best s) ≡ 0) ⊎ (length (better seg best s) < length seg)
better-short seg best s h = by (ltb (length best) (length s) && cuts seg s) refl
  where
    by : (v : Bool) → (ltb (length best) (length s) && cuts seg s) ≡ v
        → (length (better seg best s) ≡ 0) ⊎ (length (better seg best s) < length seg)
    by true q =
        let l : length s < length seg = grind (arith, nat_tests) in
        rw q (inr l)
    by false q = rw q h

module _ {K : Type 0} where
  pub or_else-none : (a : Option K) → or_else a None ≡ a
  or_else-none None = refl
  or_else-none (Some key) = refl

  -- no rows
  pub param_step-nil : (path : List ℕ) → (param_step {K = K} [] path).1 ≡ []
  unfolding param_step
  param_step-nil path =
      elim (has_slash path) as (λ v. (cond {A = ℕ × RowsOf K} v (0, []) (length path, [])).1 ≡ []) [
        | true ↦ refl
        | false ↦ refl
      ]

  pub seek-nil : (skip : ℕ) (path : List ℕ) → seek {K = K} skip [] path ≡ None
  unfolding seek
  seek-nil zero [] = refl
  seek-nil (suc skip) [] = refl
  seek-nil (suc skip) (b ∷ path) = seek-nil skip path
  seek-nil zero (b ∷ path) =
      simp (seek-nil 0 path, param_step-nil (b ∷ path), seek-nil ((param_step {K = K} [] (b ∷ path)).0 - 1) path)

  -- a walk that skips some bytes
  pub seek-drop : (skip : ℕ) (rs : RowsOf K) (path : List ℕ) → seek skip rs path ≡ seek 0 rs (drop skip path)
  unfolding seek
  seek-drop zero rs path = refl
  seek-drop (suc skip) rs [] = refl
  seek-drop (suc skip) rs (b ∷ path) = seek-drop skip rs path

  pub longest-short : (seg best : List ℕ) (rs : RowsOf K) → (length best ≡ 0) ⊎ (length best < length seg)
      → (length (longest_from seg best rs) ≡ 0) ⊎ (length (longest_from seg best rs) < length seg)
  longest-short seg best [] h = h
  longest-short seg best ((t, key) ∷ rs) h =
      longest-short seg (better seg best (segment t)) rs (better-short seg best (segment t) h)

pub drop-length : (path : List ℕ) → drop (length path) path ≡ []
drop-length [] = refl
drop-length (b ∷ path) = drop-length path

pub no_slash-whole : (path : List ℕ) → has_slash path ≡ false → HasNoSlash path
no_slash-whole [] e = tt
no_slash-whole (b ∷ path) e = by (b == slash) refl e (no_slash-whole path)
  where
    by : (v : Bool) → (b == slash) ≡ v → cond v true (has_slash path) ≡ false
        → (has_slash path ≡ false → HasNoSlash path) → HasNoSlash (b ∷ path)
    by true p e later = cc
    by false p e later = rw p (later e)

-- what comes before the end of the first segment
pub no_slash-part : (n : ℕ) (path : List ℕ) → n < length (segment path) → HasNoSlash (take n path)
no_slash-part zero path l = tt
no_slash-part (suc n) [] l = tt
no_slash-part (suc n) (b ∷ path) l = by (b == slash) refl l (no_slash-part n path)
  where
    by : (v : Bool) → (b == slash) ≡ v → suc n < length (cond v (b ∷ []) (b ∷ segment path))
        → (n < length (segment path) → HasNoSlash (take n path)) → HasNoSlash (b ∷ take n path)
    by true p l later = absurd (omega arith)
    by false p l later = rw p (later (omega arith))
