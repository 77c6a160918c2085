-- Breakpoints that are distinct, and of the program.
use Rattle.std.proofs.Common.{◌≡◌, ◌≤◌, ◌<◌, ℕ, Bool, true, false, List, [], ◌∷◌, ◌++◌, length, None, refl, sym, ap, ◌∙◌, subst, arith, append-nil, length-append}
use Rattle.std.specs.Prelude.{◌==◌, filter, if◌then◌else◌, nat_le, nat_lt, not}
use Rattle.std.specs.List.{AllByRecursion}
use Rattle.std.proofs.lemmas.Bool.{or_from, or_parts}
use Rattle.std.proofs.lemmas.List.{append_assoc}
use Rattle.std.proofs.lemmas.List.Folds.{list_any-append}
use Rattle.spec_sessions.specs.declared.limits.TheConstants.{MOST_BREAKS}
use Rattle.spec_sessions.specs.Changes.{break_refusal, set_at}
use Rattle.spec_machine.specs.State.{State}
use Rattle.session_core.specs.SessionKept.{AreDistinct, AreSet, IsSession, with_breaks}
use Rattle.spec_sessions.specs.Session.{Session, has_break, with_break, without_break}

-- ---- one more

turned : (a b : ℕ) → (a == b) ≡ false → (b == a) ≡ false
turned a b e = grind arith

last_is_none : (x a : ℕ) (xs : List ℕ) → has_break x xs ≡ false → (a == x) ≡ false → has_break x (xs ++ a ∷ []) ≡ false
last_is_none x a xs none other = list_any-append (λ b. b == x) xs (a ∷ []) ∙ or_from (has_break x xs) (has_break x (a ∷ [])) none (or_from (a == x) false other refl)

pub distinct_then : (xs : List ℕ) (a : ℕ) → AreDistinct xs → has_break a xs ≡ false → AreDistinct (xs ++ a ∷ [])
distinct_then [] a d none = (refl, tt)
distinct_then (x ∷ xs) a d none =
    let parts = or_parts (x == a) (has_break a xs) none in
    (last_is_none x a xs d.0 (turned x a parts.0), distinct_then xs a d.1 parts.1)

pub all_then : {X : Type 0} (P : X → Type 0) (xs : List X) (x : X) → AllByRecursion P xs → P x → AllByRecursion P (xs ++ x ∷ [])
all_then P [] x all p = (p, tt)
all_then P (y ∷ ys) x all p = (all.0, all_then P ys x all.1 p)

-- ---- some fewer

module _ (keep : ℕ → Bool) where
  none_left : (b : Bool) (x a : ℕ) (xs ys : List ℕ) → has_break a (x ∷ xs) ≡ false → has_break a ys ≡ false → has_break a (if b then x ∷ ys else ys) ≡ false
  none_left true x a xs ys none rest = or_from (x == a) (has_break a ys) (or_parts (x == a) (has_break a xs) none).0 rest
  none_left false x a xs ys none rest = rest

  none_kept : (a : ℕ) (xs : List ℕ) → has_break a xs ≡ false → has_break a (filter keep xs) ≡ false
  none_kept a [] none = refl
  none_kept a (x ∷ xs) none = none_left (keep x) x a xs (filter keep xs) none (none_kept a xs (or_parts (x == a) (has_break a xs) none).1)

  distinct_by : (b : Bool) (x : ℕ) (xs : List ℕ) → has_break x xs ≡ false → AreDistinct (filter keep xs) → AreDistinct (if b then x ∷ filter keep xs else filter keep xs)
  distinct_by true x xs none rest = (none_kept x xs none, rest)
  distinct_by false x xs none rest = rest

  pub distinct_kept : (xs : List ℕ) → AreDistinct xs → AreDistinct (filter keep xs)
  distinct_kept [] d = tt
  distinct_kept (x ∷ xs) d = distinct_by (keep x) x xs d.0 (distinct_kept xs d.1)

  all_by : (P : ℕ → Type 0) (b : Bool) (x : ℕ) (ys : List ℕ) → P x → AllByRecursion P ys → AllByRecursion P (if b then x ∷ ys else ys)
  all_by P true x ys p rest = (p, rest)
  all_by P false x ys p rest = rest

  pub all_kept : (P : ℕ → Type 0) (xs : List ℕ) → AllByRecursion P xs → AllByRecursion P (filter keep xs)
  all_kept P [] all = tt
  all_kept P (x ∷ xs) all = all_by P (keep x) x (filter keep xs) all.0 (all_kept P xs all.1)

-- ---- set one after another

none_before : (xs ys : List ℕ) (a : ℕ) → AreDistinct (xs ++ a ∷ ys) → has_break a xs ≡ false
none_before [] ys a d = refl
none_before (x ∷ xs) ys a d =
    let later = or_parts (has_break x xs) (has_break x (a ∷ ys)) (sym (list_any-append (λ b. b == x) xs (a ∷ ys)) ∙ d.0) in
    or_from (x == a) (has_break a xs) (turned a x (or_parts (a == x) (has_break x ys) later.1).0) (none_before xs ys a d.1)

with_new : (a : ℕ) (breaks before : List ℕ) → breaks ≡ before → has_break a before ≡ false → with_break a breaks ≡ before ++ a ∷ []
with_new a breaks before e none =
    ap (with_break a) e ∙ ap (λ (b : Bool). if b then before else before ++ a ∷ []) none

not_refused : (a : ℕ) (s : Session) (set : List ℕ) → with_break a s.breaks ≡ set → a < length s.program.code → length set ≤ MOST_BREAKS → break_refusal a s ≡ None
not_refused a s set is there few = rw (is, at_address, at_limit) refl
  where
    at_address : nat_le (length s.program.code) a ≡ false
    at_address = grind arith

    at_limit : nat_lt MOST_BREAKS (length set) ≡ false
    at_limit = grind arith

pub all_set : (breaks before : List ℕ) (s : Session) → s.breaks ≡ before → AreDistinct (before ++ breaks) → length (before ++ breaks) ≤ MOST_BREAKS → AllByRecursion (λ a. a < length s.program.code) breaks
    → AreSet breaks s × (with_breaks breaks s ≡ record s { breaks = before ++ breaks })
all_set [] before s is distinct few there = (tt, ap (λ (xs : List ℕ). record s { breaks = xs }) (is ∙ sym (append-nil before)))
all_set (a ∷ breaks) before s is distinct few there =
    let set = with_new a s.breaks before is (none_before before breaks a distinct) in
    let joined = append_assoc before (a ∷ []) breaks in
    let rest = all_set breaks (before ++ a ∷ []) (set_at a s) set (subst AreDistinct (sym joined) distinct) (subst (λ (xs : List ℕ). length xs ≤ MOST_BREAKS) (sym joined) few) there.1 in
    let sizes = length-append before (a ∷ breaks) in
    let size = length-append before (a ∷ []) in (
      (not_refused a s (before ++ a ∷ []) set there.0 (omega (arith, sizes, size, few)), rest.0),
      rest.1 ∙ ap (λ (xs : List ℕ). record s { breaks = xs }) joined,
    )

-- ---- a session with one more, or without some

pub set_kept : (s : Session) (state : State) (a : ℕ) (ys : List ℕ) → IsSession s state → a < length s.program.code → has_break a s.breaks ≡ false → length s.breaks < MOST_BREAKS → ys ≡ s.breaks ++ a ∷ [] → IsSession (record s { breaks = ys }) state
set_kept s state a ys is there none few e =
    let size = length-append s.breaks (a ∷ []) in
    subst (λ (xs : List ℕ). IsSession (record s { breaks = xs }) state) (sym e) (record {
      bytes = is.bytes;
      few = omega (arith, size, few);
      distinct = distinct_then s.breaks a is.distinct none;
      in_code = all_then (λ (x : ℕ). x < length s.program.code) s.breaks a is.in_code there;
      alone = is.alone;
      unended = is.unended;
    })

pub cleared_kept : (s : Session) (state : State) (a : ℕ) (ys : List ℕ) → IsSession s state → ys ≡ without_break a s.breaks → length ys ≤ length s.breaks → IsSession (record s { breaks = ys }) state
cleared_kept s state a ys is e fewer = record {
  bytes = is.bytes;
  few = omega (arith, is.few, fewer);
  distinct = subst AreDistinct (sym e) (distinct_kept (λ b. not (b == a)) s.breaks is.distinct);
  in_code = subst (AllByRecursion (λ (x : ℕ). x < length s.program.code)) (sym e) (all_kept (λ b. not (b == a)) (λ (x : ℕ). x < length s.program.code) s.breaks is.in_code);
  alone = is.alone;
  unended = is.unended;
}
