-- What makes a session.
use Rattle.std.proofs.Common.{◌≡◌, ◌≤◌, ◌<◌, ◌+◌, ◌-◌, ◌^◌, ℕ, zero, suc, Bool, true, false, List, [], length, Option, Some, None, refl, sym, ap, ◌∙◌, subst, arith}
use Rattle.std.specs.Prelude.{◌&&◌, if◌then◌else◌, is_some, nat_lt, not, option_map}
use Rattle.std.specs.Option.{option_and_then, option_map_or}
use Rattle.spec_avro.specs.Options.{given}
use Rattle.spec_machine.specs.Program.{Program}
use Rattle.spec_machine.specs.Row.{row_of}
use Rattle.spec_machine.specs.State.{State, start}
use Rattle.machine.specs.Laws.Rows.{one_row}
use Rattle.spec_avro.specs.declared.limits.TheConstants.{MOST_PAYLOAD}
use Rattle.spec_machine.specs.Alone.{RowsAreCounted, RunsGoOn, rows_from, run_alone}
use Rattle.spec_sessions.specs.Changes.{refused, with_piece}
use Rattle.session_core.specs.SessionKept.{AreSet, IsMade, IsSession, fed, finished_if, remade, walked, with_breaks}
use Rattle.spec_sessions.specs.Rows.{slice_from, walk_rows}
use Rattle.spec_sessions.specs.Session.{Session, begun, end_in, session_end}
use Rattle.session_core.proofs.Breaks.{all_set}
use Rattle.session_core.proofs.Slices.{not_counted_out, one_on}

-- ---- as many rows as lead to a state are taken

pub no_break : (x : Bool) → (x && false) ≡ false
no_break true = refl
no_break false = refl

module _ (P : Program) (input : List ℕ) (ended : Bool) (go_on : RunsGoOn) (counted : RowsAreCounted) where
  -- the first of some rows
  first_of : (n : ℕ) (s last : State) (o : Option State) → row_of P input ended s ≡ o → rows_from P input ended (suc n) s ≡ Some last → (next : State) × (row_of P input ended s ≡ Some next) × (rows_from P input ended n next ≡ Some last)
  unfolding rows_from
  first_of n s last (Some next) r e = (next, r, sym (ap (λ (o : Option State). given o None (rows_from P input ended n)) r) ∙ e)
  first_of n s last None r e = absurd (no_state last (sym (ap (λ (o : Option State). given o None (rows_from P input ended n)) r) ∙ e))
    where
      no_state : (last : State) → None ≡ Some last → ⊥
      no_state last e = cc

  none_asked : (s : State) → slice_from P input ended [] 0 s ≡ 0
  unfolding slice_from
  none_asked s = refl

  pub all_taken : (n m : ℕ) (s last : State) → run_alone P input ended m ≡ Some s → rows_from P input ended n s ≡ Some last → m + n ≤ 2 ^ 64 - 1 → slice_from P input ended [] n s ≡ n
  all_taken zero m s last at e few = none_asked s
  all_taken (suc n) m s last at e few =
      let first = first_of n s last (row_of P input ended s) refl e in
      let count = counted P input ended m s at in
      let room : s.count < 2 ^ 64 - 1 = omega (arith, count, few) in
      let next = go_on P input ended m 1 s at ∙ one_row P input ended s first.0 first.1 in
      one_on P input ended [] n s (Some first.0) (not_counted_out s room) (no_break (not (is_some s.content))) first.1
      ∙ ap (λ (k : ℕ). 1 + k) (all_taken n (m + 1) first.0 last next first.2 (omega (arith, few)))
      ∙ (let e : 1 + n ≡ suc n = omega arith in e)

  alone_at_first : run_alone P input ended 0 ≡ Some start
  unfolding rows_from
  alone_at_first = refl

-- ---- a session

-- before its first row
abbrev stood : Session → Session
stood s = record s { count = 0; out_of_memory = false }

finished_as : (b : Bool) (s : Session) → s.closed ≡ false → finished_if b s ≡ record s { closed = b }
finished_as true s e = refl
finished_as false s e = ap (λ (b : Bool). record s { closed = b }) e

fed_as : (s : Session) → fed s ≡ record (stood s) { breaks = [] }
fed_as s = finished_as s.closed (with_piece s.bytes (begun s.program)) refl

module _ (s : Session) (state : State) (is : IsSession s state) (go_on : RunsGoOn) (counted : RowsAreCounted) (few : s.count < 2 ^ 64) where
  sets : AreSet s.breaks (fed s) × (with_breaks s.breaks (fed s) ≡ stood s)
  sets =
      subst (λ (x : Session). AreSet s.breaks x × (with_breaks s.breaks x ≡ stood s)) (sym (fed_as s))
      (all_set s.breaks [] (record (stood s) { breaks = [] }) refl is.distinct is.few is.in_code)

  rows : walk_rows s.count (stood s) ≡ s.count
  rows =
      ap (λ (o : Option State). option_map_or (slice_from s.program s.bytes s.closed [] s.count) o 0) (alone_at_first s.program s.bytes s.closed go_on counted)
      ∙ all_taken s.program s.bytes s.closed go_on counted s.count 0 start state (alone_at_first s.program s.bytes s.closed go_on counted) is.alone (omega (arith, few))

  remade_as : remade s ≡ record s { out_of_memory = false }
  remade_as = ap (walked s.count) sets.1 ∙ ap (λ (n : ℕ). record s { count = n; out_of_memory = false }) (let e : 0 + walk_rows s.count (stood s) ≡ s.count = omega (arith, rows) in e)

  no_end : end_in (record s { out_of_memory = false }) ≡ option_map session_end state.end
  no_end = ap (λ (o : Option State). option_map session_end (option_and_then (λ (t : State). t.end) o)) is.alone

  refused_as : s.out_of_memory ≡ true → refused (record s { out_of_memory = false }) ≡ s
  refused_as e =
      ap (λ (b : Bool). if b then record s { out_of_memory = false } else record s { out_of_memory = true }) (ap is_some (no_end ∙ ap (option_map session_end) (is.unended e)))
      ∙ ap (λ (b : Bool). record s { out_of_memory = b }) (sym e)

  made_by : (b : Bool) → s.out_of_memory ≡ b → s ≡ (if b then refused (remade s) else remade s)
  made_by true e = sym (ap refused remade_as ∙ refused_as e)
  made_by false e = sym (remade_as ∙ ap (λ (b : Bool). record s { out_of_memory = b }) (sym e))

  few_bytes : nat_lt MOST_PAYLOAD (0 + length s.bytes) ≡ false
  few_bytes = let le = is.bytes in grind (arith, le)

  pub made : IsMade s
  made = record {
    piece = rw few_bytes refl;
    breaks = sets.0;
    is = made_by s.out_of_memory refl;
  }
