-- A slice ends a session that has an end within as many rows as it may take, where no breakpoint is set.
use Rattle.std.proofs.Common.{◌≡◌, ◌≤◌, ◌<◌, ◌+◌, ◌-◌, ◌^◌, ℕ, zero, suc, Bool, true, false, List, [], Option, Some, None, refl, sym, ap, ◌∙◌, subst, arith, inl, inr}
use Rattle.std.specs.Prelude.{◌&&◌, if◌then◌else◌, is_some, length, not, option_map}
use Rattle.std.specs.Option.{option_and_then}
use Rattle.std.proofs.lemmas.Bool.{false≢true}
use Rattle.std.proofs.lemmas.Option.{none-some, same_Some}
use Rattle.spec_avro.specs.Node.{Node}
use Rattle.spec_avro.specs.Options.{given}
use Rattle.spec_machine.specs.Program.{Program}
use Rattle.spec_machine.specs.Row.{row_of}
use Rattle.spec_machine.specs.State as state
use Rattle.spec_machine.specs.State.{State}
use Rattle.spec_avro.specs.declared.limits.TheConstants.{MOST_PAYLOAD}
use Rattle.spec_machine.specs.Alone.{EndsAreLast, RowsAreCounted, RunsGoOn, rows_from, run_alone}
use Rattle.spec_machine.specs.Simulation.{EndsWithOutcome}
use Rattle.machine.specs.Ending.{LeadsToOutcome}
use Rattle.machine.specs.Slice.{IsWhy}
use Rattle.spec_machine.specs.Breakpoints.{stops_at}
use Rattle.session_core.specs.declared.session.Stopped.{Stopped}
use Rattle.session_core.specs.declared.session.Stopped.TheVariants.{Ended, Spent, Broke, Waits}
use Rattle.session_core.specs.SessionEnding.{EndsInOneSlice, EndsWithin}
use Rattle.spec_sessions.specs.Rows.{TakesRows}
use Rattle.spec_sessions.specs.Session.{OutOfMemory, Session, end_in, machine_end, session_end, state_of}
use Rattle.session_core.specs.Stopping.{IsStopped, IsStoppedAs, why_of}
use Rattle.machine.specs.Laws.Plain.{and_false, none_stops}

-- ---- runs

module _ (P : Program) (input : List ℕ) (ended : Bool) where
  -- a state without an end is not the one that has it
  not_the_end : (m at : ℕ) (s last : State) (end : state.End) → run_alone P input ended m ≡ Some s → run_alone P input ended at ≡ Some last → m ≡ at → s.end ≡ None → last.end ≡ Some end → ⊥
  not_the_end m at s last end r a same none e =
      let one = same_Some s last (sym r ∙ ap (run_alone P input ended) same ∙ a) in
      none-some end (sym none ∙ ap (λ (x : State). x.end) one ∙ e)

  -- a row is there where the run goes on
  row_is_there : (n more : ℕ) (s last : State) → RunsGoOn → run_alone P input ended n ≡ Some s → run_alone P input ended (n + suc more) ≡ Some last → row_of P input ended s ≡ None → ⊥
  unfolding rows_from
  row_is_there n more s last go_on r a none =
      let stops = go_on P input ended n (suc more) s r ∙ ap (λ (o : Option State). given o None (rows_from P input ended more)) none in
      none-some last (sym stops ∙ a)

  not_waiting : (d m at : ℕ) (s last : State) (end : state.End) → at ≡ m + d → RunsGoOn → run_alone P input ended m ≡ Some s → run_alone P input ended at ≡ Some last → last.end ≡ Some end → s.end ≡ None → row_of P input ended s ≡ None → ⊥
  not_waiting zero m at s last end sum go_on r a e none row =
      not_the_end m at s last end r a (omega (arith, sum)) none e
  not_waiting (suc d) m at s last end sum go_on r a e none row =
      row_is_there m d s last go_on r (ap (run_alone P input ended) (sym sum) ∙ a) row

  -- a slice of k rows from n on, of a run that has an end within them
  comes_to_the_end : (stopped : Stopped) (n k rows at : ℕ) (s last : State) (end : state.End) → RunsGoOn → RowsAreCounted → EndsAreLast → run_alone P input ended at ≡ Some last → last.end ≡ Some end → at ≤ n + k → at < 2 ^ 64 → run_alone P input ended (n + rows) ≡ Some s → IsWhy P input ended [] (why_of stopped) k rows s → is_some s.end ≡ true
  comes_to_the_end Ended n k rows at s last end go_on counts ends a e few countable r w = w
  comes_to_the_end Spent n k rows at s last end go_on counts ends a e few countable r (none, inl m) =
      let most = ends P input ended at (n + rows) last s end a e r in
      absurd (not_the_end (n + rows) at s last end r a (omega (arith, most, m, few)) none e)
  comes_to_the_end Spent n k rows at s last end go_on counts ends a e few countable r (none, inr m) =
      let most = ends P input ended at (n + rows) last s end a e r in
      let count = counts P input ended (n + rows) s r in
      absurd (not_the_end (n + rows) at s last end r a (omega (arith, most, m, count, countable)) none e)
  comes_to_the_end Broke n k rows at s last end go_on counts ends a e few countable r w = absurd (none_stops s w.1)
  comes_to_the_end Waits n k rows at s last end go_on counts ends a e few countable r w =
      let most = ends P input ended at (n + rows) last s end a e r in
      absurd (not_waiting (at - (n + rows)) (n + rows) at s last end (omega (arith, most)) go_on r a e w.0.runs w.2)

-- ---- sessions

some_of : {A : Type 0} (o : Option A) → is_some o ≡ true → (x : A) × (o ≡ Some x)
some_of None t = absurd (false≢true t)
some_of (Some x) t = (x, refl)

some_of_map : (o : Option state.End) → is_some o ≡ true → is_some (option_map session_end o) ≡ true
some_of_map None t = absurd (false≢true t)
some_of_map (Some end) t = refl

abbrev counted : ℕ → Session → Session
counted rows s = record s { count = s.count + rows }

-- a session with an end in its machine has ended
ended_in : (x : Bool) (s : Session) (state : State) → s.out_of_memory ≡ x → state_of s ≡ Some state → is_some state.end ≡ true → is_some (end_in s) ≡ true
ended_in true s state o is t = ap (λ (b : Bool). is_some (if b then Some OutOfMemory else option_map session_end (machine_end s))) o
ended_in false s state o is t =
    ap (λ (b : Bool). is_some (if b then Some OutOfMemory else option_map session_end (machine_end s))) o
    ∙ ap (λ (r : Option State). is_some (option_map session_end (option_and_then (λ (t : State). t.end) r))) is
    ∙ some_of_map state.end t

ends_by : (x : Bool) (k rows : ℕ) (stopped : Stopped) (old : Session) → RunsGoOn → RowsAreCounted → EndsAreLast → old.out_of_memory ≡ x → IsStoppedAs x old.breaks k rows stopped (counted rows old) → EndsInOneSlice k old (counted rows old)
ends_by true k rows stopped old go_on counts ends o stops within none =
    ap (λ (b : Bool). is_some (if b then Some OutOfMemory else option_map session_end (machine_end (counted rows old)))) o
ends_by false k rows stopped old go_on counts ends o (state, is, why) within none =
    let end = some_of within.last.end within.ends in
    let by = subst (λ (breaks : List ℕ). IsWhy old.program old.bytes old.closed breaks (why_of stopped) k rows state) none why in
    ended_in false (counted rows old) state o is
    (comes_to_the_end old.program old.bytes old.closed stopped old.count k rows within.rows state within.last end.0 go_on counts ends within.runs end.1 within.few within.countable is by)

pub slice_ends : (all k rows : ℕ) (stopped : Stopped) (old new : Session) → RunsGoOn → RowsAreCounted → EndsAreLast → TakesRows all old rows new → IsStopped old.breaks k rows stopped new → EndsInOneSlice k old new
slice_ends all k rows stopped old new go_on counts ends (inl (e, same)) stops =
    subst (EndsInOneSlice k old) (sym same)
    (ends_by old.out_of_memory k rows stopped old go_on counts ends refl (subst (IsStopped old.breaks k rows stopped) same stops))
slice_ends all k rows stopped old new go_on counts ends (inr (lt, same, wants)) stops = λ within none. ap (λ (s : Session). is_some (end_in s)) same

-- a session that has all its bytes has an end within the row bound
pub ends_within : (W R : List Node) (s : Session) (at : State) → length s.bytes ≤ MOST_PAYLOAD → LeadsToOutcome W R s.program s.bytes s.closed at → s.closed ≡ true → (whole : EndsWithOutcome W R s.program s.bytes) × EndsWithin whole.rows s
ends_within W R s at few leads closed =
    let whole = (leads.bound closed few).0 in (
      whole,
      record {
        rows = whole.rows;
        last = whole.last;
        runs = subst (λ (b : Bool). run_alone s.program s.bytes b whole.rows ≡ Some whole.last) (sym closed) whole.runs;
        ends = ap (λ (e : Option state.End). is_some e) whole.ends;
        few = omega arith;
        countable = whole.few;
      },
    )
