-- Runs alone: they count their rows, come to one end at most, and are the same on longer input.
use Rattle.std.proofs.Common.{◌≡◌, ℕ, zero, suc, ◌+◌, ◌≤◌, Bool, true, false, List, [], ◌++◌, length, Option, Some, None, refl, sym, ap, ◌∙◌, subst, arith, append-nil, ◌-◌, inl, inr}
use Rattle.std.specs.Prelude.{option_map}
use Rattle.std.proofs.lemmas.Bool.{cases_lt}
use Rattle.spec_avro.specs.Options.{given}
use Rattle.isa.specs.Bounds.{IsBounded}
use Rattle.spec_machine.specs.Program.{Program}
use Rattle.spec_machine.specs.Row.{row_of}
use Rattle.spec_machine.specs.State.{End, State, start}
use Rattle.spec_machine.specs.Alone.{EndsAreLast, RowsAreCounted, RunsGoOn, RunsStay, RunsStayInside, rows_from}
use Rattle.program_correctness.proofs.Counting.{row_adds_one, row_counted}
use Rattle.program_correctness.proofs.Follow.{Takes, a_row, no_row}
use Rattle.program_correctness.proofs.Inside.{row_inside}
use Rattle.program_correctness.proofs.Plain.{plain_row}
use Rattle.program_correctness.proofs.SameParts.{counted_as}
use Rattle.avro_bytes.specs.Laws.Walks.{some_is}

-- the laws of rows, as `isa` proves them
abbrev pub RowsStay : Type 0
RowsStay = (P : Program) (input more : List ℕ) (ended : Bool) (s new : State) → s.pos ≤ length input → row_of P input false s ≡ Some new → row_of P (input ++ more) ended s ≡ Some new

abbrev pub RowsStayBounded : Type 0
RowsStayBounded = (P : Program) (input : List ℕ) (ended : Bool) (s new : State) → row_of P input ended s ≡ Some new → IsBounded s → IsBounded new

-- the first row, and those after it
pub record First (P : Program) (input : List ℕ) (ended : Bool) (n : ℕ) (s d : State) : Type 0 where
  pub next : State
  pub row : row_of P input ended s ≡ Some next
  pub rest : rows_from P input ended n next ≡ Some d

pub first_of : (P : Program) (input : List ℕ) (ended : Bool) (n : ℕ) (s d : State) → rows_from P input ended (suc n) s ≡ Some d → First P input ended n s d
unfolding rows_from
first_of P input ended n s d e = by_row (row_of P input ended s) refl e
  where
    by_row : (o : Option State) → row_of P input ended s ≡ o → given o None (rows_from P input ended n) ≡ Some d → First P input ended n s d
    by_row None r e = absurd cc
    by_row (Some t) r e = record { next = t; row = r; rest = e }

row_first : (P : Program) (input : List ℕ) (ended : Bool) (n : ℕ) (s t : State) → row_of P input ended s ≡ Some t → rows_from P input ended (suc n) s ≡ rows_from P input ended n t
unfolding rows_from
row_first P input ended n s t r = ap (λ (o : Option State). given o None (rows_from P input ended n)) r

none_taken : (P : Program) (input : List ℕ) (ended : Bool) (s d : State) → rows_from P input ended 0 s ≡ Some d → s ≡ d
unfolding rows_from
none_taken P input ended s d e = cc

-- ---- rows after rows

rows_behind : (P : Program) (input : List ℕ) (ended : Bool) (n more : ℕ) (s d : State) → rows_from P input ended n s ≡ Some d → rows_from P input ended (n + more) s ≡ rows_from P input ended more d
rows_behind P input ended zero more s d e = let same : 0 + more ≡ more = omega arith in ap (λ (k : ℕ). rows_from P input ended k s) same ∙ ap (rows_from P input ended more) (none_taken P input ended s d e)
rows_behind P input ended (suc n) more s d e =
    let x = first_of P input ended n s d e in
    let same : suc n + more ≡ suc (n + more) = omega arith in
    ap (λ (k : ℕ). rows_from P input ended k s) same ∙ row_first P input ended (n + more) s x.next x.row ∙ rows_behind P input ended n more x.next d x.rest

-- ---- the count

counts_rows : (P : Program) (input : List ℕ) (ended : Bool) (n : ℕ) (s d : State) → rows_from P input ended n s ≡ Some d → d.count ≡ s.count + n
counts_rows P input ended zero s d e = omega (arith, ap (λ (x : State). x.count) (none_taken P input ended s d e))
counts_rows P input ended (suc n) s d e =
    let x = first_of P input ended n s d e in
    omega (arith, row_adds_one P input ended s x.next x.row, counts_rows P input ended n x.next d x.rest)

-- rows before they are counted, with the count
pub takes_rows : (P : Program) (p : List ℕ) (L n : ℕ) (s d : State) → Takes P p L n s d → (c : ℕ) → rows_from P p true n (counted_as c s) ≡ Some (counted_as (c + n) d)
unfolding rows_from
takes_rows P p L _ s d no_row c = let same : c ≡ c + 0 = omega arith in ap (λ (k : ℕ). Some (counted_as k s)) same
takes_rows P p L _ s d (a_row {n = n} t r rest) c =
    let row : row_of P p true (counted_as c s) ≡ Some (counted_as (c + 1) t) = row_counted P p c s ∙ ap (option_map (counted_as (c + 1))) r in
    let same : c + 1 + n ≡ c + suc n = omega arith in
    row_first P p true n (counted_as c s) (counted_as (c + 1) t) row ∙ takes_rows P p L n t d rest (c + 1) ∙ ap (λ (k : ℕ). Some (counted_as k d)) same

-- ---- one end

none_behind : (P : Program) (input : List ℕ) (ended : Bool) (s : State) (e : End) → s.end ≡ Some e → row_of P input ended s ≡ None
unfolding row_of
none_behind P input ended s e h = rw h refl

stays_ended : (P : Program) (input : List ℕ) (ended : Bool) (n : ℕ) (s d : State) (e : End) → s.end ≡ Some e → rows_from P input ended (suc n) s ≡ Some d → ⊥
stays_ended P input ended n s d e h r =
    let x = first_of P input ended n s d r in
    let none : None ≡ Some x.next = sym (none_behind P input ended s e h) ∙ x.row in
    cc

pub one_end : (P : Program) (input : List ℕ) (ended : Bool) (n m : ℕ) (s c d : State) (e f : End) → rows_from P input ended n s ≡ Some c → c.end ≡ Some e → rows_from P input ended m s ≡ Some d → d.end ≡ Some f → c ≡ d
one_end P input ended zero zero s c d e f r h k g = sym (none_taken P input ended s c r) ∙ none_taken P input ended s d k
one_end P input ended zero (suc m) s c d e f r h k g = absurd (stays_ended P input ended m s d e (ap (λ (x : State). x.end) (none_taken P input ended s c r) ∙ h) k)
one_end P input ended (suc n) zero s c d e f r h k g = absurd (stays_ended P input ended n s c f (ap (λ (x : State). x.end) (none_taken P input ended s d k) ∙ g) r)
one_end P input ended (suc n) (suc m) s c d e f r h k g =
    let x = first_of P input ended n s c r in
    let y = first_of P input ended m s d k in
    let same : y.next ≡ x.next = some_is (sym y.row ∙ x.row) in
    one_end P input ended n m x.next c d e f x.rest h (subst (λ (t : State). rows_from P input ended m t ≡ Some d) same y.rest) g

-- ---- bounds

pub rows_bounded : RowsStayBounded → (P : Program) (input : List ℕ) (ended : Bool) (n : ℕ) (s d : State) → rows_from P input ended n s ≡ Some d → IsBounded s → IsBounded d
rows_bounded stays P input ended zero s d e b = subst IsBounded (none_taken P input ended s d e) b
rows_bounded stays P input ended (suc n) s d e b =
    let x = first_of P input ended n s d e in
    rows_bounded stays P input ended n x.next d x.rest (stays P input ended s x.next x.row b)

-- ---- longer input

counted_inside : (P : Program) (p : List ℕ) (s t : State) (o : Option State) → plain_row P p s ≡ o → option_map (counted_as (s.count + 1)) o ≡ Some t → s.pos ≤ length p → t.pos ≤ length p
counted_inside P p s t None r e i = absurd cc
counted_inside P p s t (Some d) r e i = subst (λ (x : State). x.pos ≤ length p) (some_is e) (row_inside P p s d r i)

row_stays_inside : RowsStay → (P : Program) (input : List ℕ) (s t : State) → s.pos ≤ length input → row_of P input false s ≡ Some t → t.pos ≤ length input
row_stays_inside stays P input s t i r =
    let closed : row_of P input true s ≡ Some t = subst (λ (l : List ℕ). row_of P l true s ≡ Some t) (append-nil input) (stays P input [] true s t i r) in
    counted_inside P input s t (plain_row P input s) refl (sym (row_counted P input s.count s) ∙ closed) i

rows_longer : RowsStay → (P : Program) (input more : List ℕ) (ended : Bool) (n : ℕ) (s d : State) → s.pos ≤ length input → rows_from P input false n s ≡ Some d → rows_from P (input ++ more) ended n s ≡ Some d
unfolding rows_from
rows_longer stays P input more ended zero s d i e = e
rows_longer stays P input more ended (suc n) s d i e =
    let x = first_of P input false n s d e in
    row_first P (input ++ more) ended n s x.next (stays P input more ended s x.next i x.row) ∙ rows_longer stays P input more ended n x.next d (row_stays_inside stays P input s x.next i x.row) x.rest

closed_inside : (P : Program) (input : List ℕ) (s t : State) → s.pos ≤ length input → row_of P input true s ≡ Some t → t.pos ≤ length input
closed_inside P input s t i r = counted_inside P input s t (plain_row P input s) refl (sym (row_counted P input s.count s) ∙ r) i

rows_inside : RowsStay → (P : Program) (input : List ℕ) (ended : Bool) (n : ℕ) (s d : State) → s.pos ≤ length input → rows_from P input ended n s ≡ Some d → d.pos ≤ length input
rows_inside stays P input ended zero s d i e = subst (λ (x : State). x.pos ≤ length input) (none_taken P input ended s d e) i
rows_inside stays P input true (suc n) s d i e = let x = first_of P input true n s d e in rows_inside stays P input true n x.next d (closed_inside P input s x.next i x.row) x.rest
rows_inside stays P input false (suc n) s d i e = let x = first_of P input false n s d e in rows_inside stays P input false n x.next d (row_stays_inside stays P input s x.next i x.row) x.rest

-- ---- the laws of runs alone

pub rows_are_counted : RowsAreCounted
rows_are_counted P input ended n s e = omega (arith, counts_rows P input ended n start s e)

pub runs_go_on : RunsGoOn
runs_go_on P input ended n more s e = rows_behind P input ended n more start s e

pub ends_are_last : EndsAreLast
ends_are_last P input ended n m s t end r e k = elim (cases_lt n m) [
  | inl lt ↦ (
      let later : n + suc (m - suc n) ≡ m = omega (arith, lt) in
      absurd (stays_ended P input ended (m - suc n) s t end e (sym (rows_behind P input ended n (suc (m - suc n)) start s r) ∙ ap (λ (j : ℕ). rows_from P input ended j start) later ∙ k)))
  | inr le ↦ le
]

pub runs_stay_inside : RowsStay → RunsStayInside
runs_stay_inside stays P input ended n s e = rows_inside stays P input ended n start s (omega arith) e

pub runs_stay : RowsStay → RunsStay
runs_stay stays P input more ended n s e = rows_longer stays P input more ended n start s (omega arith) e
