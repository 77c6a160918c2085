-- Where runs stop: there is one state, and no other.
use Rattle.std.proofs.Common.{◌≡◌, ◌≤◌, ◌<◌, ◌⊎◌, ◌+◌, ℕ, zero, suc, Bool, true, List, Option, Some, None, inl, inr, refl, sym, ap, ◌∙◌, subst, arith}
use Rattle.std.specs.Prelude.{is_some}
use Rattle.std.proofs.lemmas.Bool.{cases_lt}
use Rattle.std.proofs.lemmas.Option.{same_Some}
use Rattle.spec_machine.specs.Program.{Program}
use Rattle.spec_machine.specs.Row.{row_of}
use Rattle.spec_machine.specs.State.{End, State, start}
use Rattle.spec_machine.specs.Alone.{EndsAreLast, RowsAreCounted, RunsGoOn, rows_from, run_alone}
use Rattle.spec_lines.specs.Running.{StopsIn}
use Rattle.machine.specs.Laws.Plain.{RowOrEnd, not_none}

one_row : (P : Program) (input : List ℕ) (last new : State) → row_of P input true last ≡ Some new → rows_from P input true 1 last ≡ Some new
unfolding rows_from
one_row P input last new r = rw r refl

at_start : (P : Program) (input : List ℕ) → run_alone P input true 0 ≡ Some start
unfolding rows_from
at_start P input = refl

module _ (P : Program) (payload : List ℕ) where
  module _ (there : RowOrEnd) (counted : RowsAreCounted) (go_on : RunsGoOn) where
    stops_later : (n : ℕ) (s : State) → StopsIn P payload n s → (row : Option State) → row_of P payload true s ≡ row → s.end ≡ None
        → (t : State) × StopsIn P payload (suc n) t
    stops_later n s p None none runs = absurd (not_none (row_of P payload true s) none (there P payload s runs))
    stops_later n s p (Some new) row runs =
        let all : s.count ≡ n = at (cases_lt s.count n) in
        let alone : run_alone P payload true (n + 1) ≡ Some new =
        go_on P payload true n 1 s (subst (λ m. run_alone P payload true m ≡ Some s) all p.alone) ∙ one_row P payload s new row in
        let count = counted P payload true (n + 1) new alone in (
          new,
          record {
            alone = subst (λ m. run_alone P payload true m ≡ Some new) (sym count) alone;
            most = omega (arith, count);
            ended = λ few. absurd (omega (arith, count, few));
          },
        )
      where
        at : (s.count < n) ⊎ (n ≤ s.count) → s.count ≡ n
        at (inl few) = absurd (not_none s.end runs (p.ended few))
        at (inr many) = omega (arith, many, p.most)

    stops_next : (n : ℕ) (s : State) → StopsIn P payload n s → (end : Option End) → s.end ≡ end → (t : State) × StopsIn P payload (suc n) t
    stops_next n s p None runs = stops_later n s p (row_of P payload true s) refl runs
    stops_next n s p (Some end) ended = (s, record { alone = p.alone; most = omega (arith, p.most); ended = λ few. ap is_some ended })

    pub some_stop : (steps : ℕ) → (s : State) × StopsIn P payload steps s
    some_stop zero = (start, record { alone = at_start P payload; most = omega arith; ended = λ few. absurd (omega (arith, few)) })
    some_stop (suc n) = let s = some_stop n in stops_next n s.0 s.1 s.0.end refl

  module _ (last : EndsAreLast) (steps : ℕ) where
    not_before : (s t : State) → StopsIn P payload steps s → StopsIn P payload steps t → (end : Option End) → s.end ≡ end → s.count < t.count → ⊥
    not_before s t p q None runs few = not_none s.end runs (p.ended (omega (arith, few, q.most)))
    not_before s t p q (Some end) ended few =
        let most = last P payload true s.count t.count s t end p.alone ended q.alone in
        omega (arith, most, few)

    same_count : (s t : State) → StopsIn P payload steps s → StopsIn P payload steps t → s.count ≡ t.count
    same_count s t p q = at (cases_lt s.count t.count) (cases_lt t.count s.count)
      where
        at : (s.count < t.count) ⊎ (t.count ≤ s.count) → (t.count < s.count) ⊎ (s.count ≤ t.count) → s.count ≡ t.count
        at (inl less) _ = absurd (not_before s t p q s.end refl less)
        at (inr most) (inl less) = absurd (not_before t s q p t.end refl less)
        at (inr most) (inr least) = omega (arith, most, least)

    pub one_stop : (s t : State) → StopsIn P payload steps s → StopsIn P payload steps t → s ≡ t
    one_stop s t p q = same_Some s t (sym p.alone ∙ ap (run_alone P payload true) (same_count s t p q) ∙ q.alone)

-- a run that has taken its rows on a whole payload, or has ended
pub stopped : (P Q : Program) (payload input : List ℕ) (ended : Bool) (steps : ℕ) (s : State) → Q ≡ P → input ≡ payload → ended ≡ true
    → run_alone Q input ended s.count ≡ Some s → s.count ≤ steps → (s.count < steps → is_some s.end ≡ true) → StopsIn P payload steps s
stopped P Q payload input ended steps s program bytes closed alone most last =
    record { alone = rw (program, bytes, closed) at alone; most = most; ended = last }
