-- What is taken to go on from a breakpoint: one row, and then a slice.
use Rattle.std.proofs.Common.{◌≡◌, ◌≢◌, ◌≤◌, ◌+◌, ◌-◌, ℕ, zero, suc, Bool, true, false, List, [], Option, Some, None, refl, sym, ap, ◌∙◌, subst, arith, inl, inr}
use Rattle.std.proofs.Math.Nat.{lt_irrefl, suc-ne-zero}
use Rattle.std.specs.Prelude.{◌⊎◌, ◌&&◌, if◌then◌else◌, is_some, not}
use Rattle.std.specs.Option.{option_map_or}
use Rattle.spec_machine.specs.Program.{Program}
use Rattle.spec_machine.specs.Row.{row_of}
use Rattle.spec_machine.specs.State.{State}
use Rattle.machine.specs.Laws.Rows.{one_row}
use Rattle.spec_machine.specs.Alone.{RunsGoOn}
use Rattle.spec_sessions.specs.Rows.{TakesRows, go_from, go_rows, is_counted_out, rows_of, slice_from, slice_rows, walk_rows}
use Rattle.spec_sessions.specs.Session.{Session, state_of}
use Rattle.session_core.proofs.Slices.{none_counted_out, one_on, rest}
use Rattle.session_core.proofs.Made.{no_break}

-- ---- the first row

module _ (P : Program) (input : List ℕ) (ended : Bool) (breaks : List ℕ) (k : ℕ) (s : State) where
  -- there is no row to take, or one, from which the others are taken
  abbrev pub First : Type 0
  First = ((slice_from P input ended [] 1 s ≡ 0) × (go_from P input ended breaks (suc k) s ≡ 0))
      ⊎ ((next : State) × (row_of P input ended s ≡ Some next) × (slice_from P input ended [] 1 s ≡ 1) × (go_from P input ended breaks (suc k) s ≡ 1 + slice_from P input ended breaks k next))

  go_is : (x : Bool) (o : Option State) → is_counted_out s ≡ x → row_of P input ended s ≡ o → go_from P input ended breaks (suc k) s ≡ (if x then 0 else rest P input ended breaks k o)
  go_is x o c r =
      ap (λ (y : Bool). if y then 0 else rest P input ended breaks k (row_of P input ended s)) c
      ∙ ap (λ (y : Option State). if x then 0 else rest P input ended breaks k y) r

  nothing : (next : State) → slice_from P input ended [] 0 next ≡ 0
  unfolding slice_from
  nothing next = refl

  first_is : (o : Option State) → is_counted_out s ≡ false → row_of P input ended s ≡ o → slice_from P input ended [] 1 s ≡ rest P input ended [] 0 o
  first_is o c r = one_on P input ended [] 0 s o c (no_break (not (is_some s.content))) r

  first_of : (x : Bool) (o : Option State) → is_counted_out s ≡ x → row_of P input ended s ≡ o → First
  first_of true o c r = inl (none_counted_out P input ended [] 1 s c, go_is true o c r)
  first_of false None c r = inl (first_is None c r, go_is false None c r)
  first_of false (Some next) c r = inr (next, r, first_is (Some next) c r ∙ ap (λ (x : ℕ). 1 + x) (nothing next), go_is false (Some next) c r)

  pub first_row : First
  first_row = first_of (is_counted_out s) (row_of P input ended s) refl refl

-- ---- a session

-- the rows of a session that memory has ended, and of one that it has not
none_are : (s : Session) (rows : State → ℕ) → s.out_of_memory ≡ true → rows_of s rows ≡ 0
none_are s rows o = ap (λ (x : Bool). if x then 0 else option_map_or rows (state_of s) 0) o

rows_are : (s : Session) (state : State) (rows : State → ℕ) → s.out_of_memory ≡ false → state_of s ≡ Some state → rows_of s rows ≡ rows state
rows_are s state rows o e =
    ap (λ (x : Bool). if x then 0 else option_map_or rows (state_of s) 0) o ∙ ap (λ (x : Option State). option_map_or rows x 0) e

abbrev pub one_more : Session → Session
one_more s = record s { count = s.count + 1 }

-- either no row is there, or one is, and the others are those that the session takes then
abbrev pub OneThenSlice : ℕ → Session → Type 0
OneThenSlice k s = ((walk_rows 1 s ≡ 0) × (go_rows (suc k) s ≡ 0))
    ⊎ ((walk_rows 1 s ≡ 1) × (go_rows (suc k) s ≡ 1 + slice_rows k (record s { count = s.count + 1 })))

goes_from : (k : ℕ) (s : Session) (state : State) → RunsGoOn → s.out_of_memory ≡ false → state_of s ≡ Some state → First s.program s.bytes s.closed s.breaks k state → OneThenSlice k s
goes_from k s state go_on o is (inl (w, g)) = inl (rows_are s state (slice_from s.program s.bytes s.closed [] 1) o is ∙ w, rows_are s state (go_from s.program s.bytes s.closed s.breaks (suc k)) o is ∙ g)
goes_from k s state go_on o is (inr (next, r, w, g)) =
    let later = go_on s.program s.bytes s.closed s.count 1 state is ∙ one_row s.program s.bytes s.closed state next r in
    let others = rows_are (one_more s) next (slice_from s.program s.bytes s.closed s.breaks k) o later in
    inr (
      rows_are s state (slice_from s.program s.bytes s.closed [] 1) o is ∙ w,
      rows_are s state (go_from s.program s.bytes s.closed s.breaks (suc k)) o is ∙ g ∙ ap (λ (x : ℕ). 1 + x) (sym others),
    )

goes_where : (x : Bool) (k : ℕ) (s : Session) (state : State) → RunsGoOn → s.out_of_memory ≡ x → state_of s ≡ Some state → OneThenSlice k s
goes_where true k s state go_on o is = inl (none_are s (slice_from s.program s.bytes s.closed [] 1) o, none_are s (go_from s.program s.bytes s.closed s.breaks (suc k)) o)
goes_where false k s state go_on o is = goes_from k s state go_on o is (first_row s.program s.bytes s.closed s.breaks k state)

-- ---- going on

stopped_at : (W G : ℕ) (s new : Session) → (x : (W ≡ 0) × (G ≡ 0)) → TakesRows W s 0 new → TakesRows G s 0 new
stopped_at W G s new (w, g) (inl (e, same)) = inl (sym g, same)
stopped_at W G s new (w, g) (inr (lt, same, wants)) = inr (omega (arith, lt, w), same, wants)

stopped_after : (W G : ℕ) (s new : Session) → W ≡ 1 → 1 ≤ G → TakesRows W s 0 new → TakesRows G s 0 new
stopped_after W G s new w g (inl (e, same)) = inl (omega (arith, e, w), same)
stopped_after W G s new w g (inr (lt, same, wants)) = inr (omega (arith, g), same, wants)

stopped_where : (k : ℕ) (s new : Session) → OneThenSlice k s → TakesRows (walk_rows 1 s) s 0 new → TakesRows (go_rows (suc k) s) s 0 new
stopped_where k s new (inl both) t = stopped_at (walk_rows 1 s) (go_rows (suc k) s) s new both t
stopped_where k s new (inr (w, g)) t = stopped_after (walk_rows 1 s) (go_rows (suc k) s) s new w (omega (arith, g)) t

-- no first row was taken
pub stopped : (n : ℕ) (s new : Session) (state : State) → n ≢ 0 → RunsGoOn → state_of s ≡ Some state → TakesRows (walk_rows 1 s) s 0 new → TakesRows (go_rows n s) s 0 new
stopped zero s new state n go_on is t = absurd (n refl)
stopped (suc k) s new state n go_on is t = stopped_where k s new (goes_where s.out_of_memory k s state go_on refl is) t

-- the first row was taken
first_taken : (W : ℕ) (s mid : Session) → W ≤ 1 → TakesRows W s 1 mid → mid ≡ one_more s
first_taken W s mid le (inl (e, same)) = same
first_taken W s mid le (inr (lt, same, wants)) = absurd (lt_irrefl 1 (omega (arith, lt, le)))

others_taken : (S G more : ℕ) (s new : Session) → G ≡ 1 + S → TakesRows S (one_more s) more new → TakesRows G s (1 + more) new
others_taken S G more s new g (inl (e, same)) =
    inl (omega (arith, e, g), same ∙ ap (λ (n : ℕ). record s { count = n }) (sum_is s.count more))
  where
    sum_is : (n m : ℕ) → n + 1 + m ≡ n + (1 + m)
    sum_is n m = omega arith
others_taken S G more s new g (inr (lt, same, wants)) =
    inr (omega (arith, lt, g), same ∙ ap (λ (n : ℕ). record s { count = n; out_of_memory = true }) (sum_is s.count more), wants)
  where
    sum_is : (n m : ℕ) → n + 1 + m ≡ n + (1 + m)
    sum_is n m = omega arith

went_where : (k first more : ℕ) (s mid new : Session) → OneThenSlice k s → first ≡ 1 → TakesRows (walk_rows 1 s) s first mid → TakesRows (slice_rows k mid) mid more new → TakesRows (go_rows (suc k) s) s (1 + more) new
went_where k first more s mid new (inl (w, g)) one t u = absurd (none-taken (walk_rows 1 s) first s mid w one t)
  where
    none-taken : (W first : ℕ) (s mid : Session) → W ≡ 0 → first ≡ 1 → TakesRows W s first mid → ⊥
    none-taken W first s mid w one (inl (e, same)) = suc-ne-zero 0 (sym one ∙ e ∙ w)
    none-taken W first s mid w one (inr (lt, same, wants)) = lt_irrefl 0 (omega (arith, lt, w))
went_where k first more s mid new (inr (w, g)) one t u =
    let is_mid = first_taken (walk_rows 1 s) s mid (omega (arith, w)) (subst (λ (x : ℕ). TakesRows (walk_rows 1 s) s x mid) one t) in
    others_taken (slice_rows k (one_more s)) (go_rows (suc k) s) more s new g (subst (λ (m : Session). TakesRows (slice_rows k m) m more new) is_mid u)

pub went : (n first more : ℕ) (s mid new : Session) (state : State) → n ≢ 0 → RunsGoOn → state_of s ≡ Some state → first ≡ 1 → TakesRows (walk_rows 1 s) s first mid → TakesRows (slice_rows (n - 1) mid) mid more new → TakesRows (go_rows n s) s (1 + more) new
went zero first more s mid new state n go_on is one t u = absurd (n refl)
went (suc k) first more s mid new state n go_on is one t u =
    let less : suc k - 1 ≡ k = omega arith in
    went_where k first more s mid new (goes_where s.out_of_memory k s state go_on refl is) one t (subst (λ (x : ℕ). TakesRows (slice_rows x mid) mid more new) less u)
