-- A slice takes the rows that there are to take, or fewer where memory is wanting.
use Rattle.std.proofs.Common.{◌≡◌, ◌≢◌, ◌<◌, ◌≤◌, ◌+◌, ◌-◌, ◌^◌, ℕ, zero, suc, Bool, true, false, List, Option, Some, None, refl, sym, ap, ◌∙◌, subst, arith, inl, inr}
use Rattle.std.specs.Prelude.{◌||◌, ◌==◌, if◌then◌else◌, is_some}
use Rattle.std.proofs.Math.Nat.{ne_of_lt}
use Rattle.std.proofs.lemmas.Bool.{false≢true, ne_eqb}
use Rattle.spec_avro.specs.Options.{given}
use Rattle.spec_machine.specs.Program.{Program}
use Rattle.spec_machine.specs.Row.{counted, row_of}
use Rattle.spec_machine.specs.State as state
use Rattle.spec_machine.specs.State.{State}
use Rattle.machine.specs.Laws.Rows.{rows_run}
use Rattle.spec_machine.specs.Alone.{RowsAreCounted, RunsGoOn, run_alone}
use Rattle.machine.specs.declared.slice.Why.{Why}
use Rattle.machine.specs.declared.slice.Why.TheVariants.{Broke, Ended, NoMemory, Spent, Waits}
use Rattle.machine.specs.Slice.{IsWhy, Rows}
use Rattle.spec_machine.specs.Breakpoints.{stops_at}
use Rattle.spec_sessions.specs.Rows.{is_counted_out, slice_from}

-- ---- one row more

pub not_counted_out : (s : State) → s.count < 2 ^ 64 - 1 → is_counted_out s ≡ false
not_counted_out s few = ne_eqb s.count (2 ^ 64 - 1) (ne_of_lt few)

module _ (P : Program) (input : List ℕ) (ended : Bool) (breaks : List ℕ) where
  abbrev pub rest : ℕ → Option State → ℕ
  rest k o = given o 0 (λ (next : State). 1 + slice_from P input ended breaks k next)

  -- a row that is there, and at no breakpoint
  pub one_on : (k : ℕ) (s : State) (o : Option State) → is_counted_out s ≡ false → stops_at breaks s ≡ false → row_of P input ended s ≡ o → slice_from P input ended breaks (suc k) s ≡ rest k o
  unfolding slice_from
  one_on k s o c b r =
      ap (λ (x : Bool). if x || stops_at breaks s then 0 else rest k (row_of P input ended s)) c
      ∙ ap (λ (x : Bool). if x then 0 else rest k (row_of P input ended s)) b
      ∙ ap (rest k) r

  -- no row is there to be taken
  pub none_counted_out : (k : ℕ) (s : State) → is_counted_out s ≡ true → slice_from P input ended breaks k s ≡ 0
  unfolding slice_from
  none_counted_out zero s c = refl
  none_counted_out (suc k) s c = ap (λ (x : Bool). if x || stops_at breaks s then 0 else rest k (row_of P input ended s)) c

  pub none_at_a_break : (k : ℕ) (s : State) → s.count < 2 ^ 64 - 1 → stops_at breaks s ≡ true → slice_from P input ended breaks k s ≡ 0
  unfolding slice_from
  none_at_a_break zero s c b = refl
  none_at_a_break (suc k) s c b =
      ap (λ (x : Bool). if x || stops_at breaks s then 0 else rest k (row_of P input ended s)) (not_counted_out s c)
      ∙ ap (λ (x : Bool). if x then 0 else rest k (row_of P input ended s)) b

  none_either : (x : Bool) → ◌≡◌ {A = ℕ} (if x then 0 else 0) 0
  none_either true = refl
  none_either false = refl

  pub none_without_a_row : (k : ℕ) (s : State) → row_of P input ended s ≡ None → slice_from P input ended breaks k s ≡ 0
  unfolding slice_from
  none_without_a_row zero s r = refl
  none_without_a_row (suc k) s r =
      ap (λ (o : Option State). if is_counted_out s || stops_at breaks s then 0 else rest k o) r ∙ none_either (is_counted_out s || stops_at breaks s)

  some_rest : (k : ℕ) (o : Option State) → is_some o ≡ true → 1 ≤ rest k o
  some_rest k (Some next) t = omega arith
  some_rest k None t = absurd (false≢true t)

  -- ---- the rows of a slice

  pub rows_then : (n m : ℕ) (s new : State) → RunsGoOn → RowsAreCounted → run_alone P input ended s.count ≡ Some s → Rows P input ended breaks n s new → s.count + n ≤ 2 ^ 64 - 1
      → slice_from P input ended breaks (n + m) s ≡ n + slice_from P input ended breaks m new
  rows_then zero m s new go_on counts a r few =
      let same : 0 + m ≡ m = omega arith in
      let sums : slice_from P input ended breaks m new ≡ 0 + slice_from P input ended breaks m new = omega arith in
      ap (λ (x : ℕ). slice_from P input ended breaks x s) same ∙ ap (slice_from P input ended breaks m) (sym r) ∙ sums
  rows_then (suc n) m s new go_on counts a r few =
      let last = r.0 in
      let count = counts P input ended (s.count + n) last (rows_run P input ended breaks n s.count s last go_on a r.1) in
      let room : last.count < 2 ^ 64 - 1 = omega (arith, count, few) in
      let before = rows_then n (suc m) s last go_on counts a r.1 (omega (arith, few)) in
      let step = one_on m last (Some new) (not_counted_out last room) r.2 r.3 in
      let same : suc n + m ≡ n + suc m = omega arith in
      let sums : n + (1 + slice_from P input ended breaks m new) ≡ suc n + slice_from P input ended breaks m new = omega arith in
      ap (λ (x : ℕ). slice_from P input ended breaks x s) same ∙ before ∙ ap (λ (x : ℕ). n + x) step ∙ sums

  -- ---- what is left

  no_row : (s : State) (e : Option state.End) → s.end ≡ e → is_some e ≡ true → row_of P input ended s ≡ None
  unfolding row_of
  no_row s (Some end) q t = ap (λ (o : Option state.End). counted P input ended o s) q
  no_row s None q t = absurd (false≢true t)

  none_of_none : (k : ℕ) (s : State) → k ≡ 0 → slice_from P input ended breaks k s ≡ 0
  unfolding slice_from
  none_of_none k s e = ap (λ (x : ℕ). slice_from P input ended breaks x s) e

  -- nothing, unless memory was wanting
  pub none_left : (why : Why) (k rows : ℕ) (s : State) → why ≢ NoMemory → IsWhy P input ended breaks why k rows s → slice_from P input ended breaks (k - rows) s ≡ 0
  none_left Ended k rows s n w = none_without_a_row (k - rows) s (no_row s s.end refl w)
  none_left Spent k rows s n (_, inl e) = none_of_none (k - rows) s (omega (arith, e))
  none_left Spent k rows s n (_, inr e) = none_counted_out (k - rows) s (ap (λ (x : ℕ). x == 2 ^ 64 - 1) e)
  none_left Broke k rows s n w = none_at_a_break (k - rows) s w.0.count w.1
  none_left Waits k rows s n w = none_without_a_row (k - rows) s w.2
  none_left NoMemory k rows s n w = absurd (n refl)

  -- one row at least, where memory was wanting
  pub one_left : (k rows : ℕ) (s : State) → IsWhy P input ended breaks NoMemory k rows s → 1 ≤ slice_from P input ended breaks (k - rows) s
  one_left k rows s w =
      let some : suc (k - rows - 1) ≡ k - rows = omega (arith, w.0.few) in
      let first = one_on (k - rows - 1) s (row_of P input ended s) (not_counted_out s w.0.count) w.1 refl in
      subst (λ (x : ℕ). 1 ≤ x) (sym (ap (λ (x : ℕ). slice_from P input ended breaks x s) (sym some) ∙ first)) (some_rest (k - rows - 1) (row_of P input ended s) w.2)

  -- ---- a slice

  pub all_rows : (why : Why) (k rows : ℕ) (s new : State) → RunsGoOn → RowsAreCounted → run_alone P input ended s.count ≡ Some s → Rows P input ended breaks rows s new → s.count + rows ≤ 2 ^ 64 - 1 → rows ≤ k → why ≢ NoMemory → IsWhy P input ended breaks why k rows new
      → rows ≡ slice_from P input ended breaks k s
  all_rows why k rows s new go_on counts a r few le n w =
      let same : k ≡ rows + (k - rows) = omega (arith, le) in
      let sums : rows ≡ rows + 0 = omega arith in
      sums ∙ ap (λ (x : ℕ). rows + x) (sym (none_left why k rows new n w)) ∙ sym (rows_then rows (k - rows) s new go_on counts a r few) ∙ ap (λ (x : ℕ). slice_from P input ended breaks x s) (sym same)

  pub fewer_rows : (k rows : ℕ) (s new : State) → RunsGoOn → RowsAreCounted → run_alone P input ended s.count ≡ Some s → Rows P input ended breaks rows s new → s.count + rows ≤ 2 ^ 64 - 1 → rows ≤ k → IsWhy P input ended breaks NoMemory k rows new
      → rows < slice_from P input ended breaks k s
  fewer_rows k rows s new go_on counts a r few le w =
      let same : k ≡ rows + (k - rows) = omega (arith, le) in
      let sums = ap (λ (x : ℕ). slice_from P input ended breaks x s) same ∙ rows_then rows (k - rows) s new go_on counts a r few in
      omega (arith, sums, one_left k rows new w)

  -- ---- of a session

  -- no more than are asked for
  few_in : (k : ℕ) (x : Bool) (o : Option State) → ((next : State) → slice_from P input ended breaks k next ≤ k) → (if x then 0 else rest k o) ≤ suc k
  few_in k true o few = omega arith
  few_in k false None few = omega arith
  few_in k false (Some next) few = omega (arith, few next)

  pub few_rows : (k : ℕ) (s : State) → slice_from P input ended breaks k s ≤ k
  unfolding slice_from
  few_rows zero s = omega arith
  few_rows (suc k) s = few_in k (is_counted_out s || stops_at breaks s) (row_of P input ended s) (few_rows k)
