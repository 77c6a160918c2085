-- Plain facts that several proofs need.
use Rattle.std.proofs.Common.{◌≡◌, ℕ, true, List, None, Option, Some, Bool, false, ◌&&◌, not, []}
use Rattle.std.specs.Prelude.{is_some}
use Rattle.spec_machine.specs.Program.{Program}
use Rattle.spec_machine.specs.Row.{row_of}
use Rattle.spec_machine.specs.State.{State}
use Rattle.spec_machine.specs.Breakpoints.{stops_at}

-- the law of rows, as `isa` proves it
abbrev pub RowOrEnd : Type 0
RowOrEnd = (P : Program) (input : List ℕ) (s : State) → s.end ≡ None → is_some (row_of P input true s) ≡ true

pub not_none : {A : Type 0} (o : Option A) → o ≡ None → is_some o ≡ true → ⊥
not_none None e t = cc
not_none (Some x) e t = cc

pub and_false : (b : Bool) → b && false ≡ true → ⊥
and_false true e = cc
and_false false e = cc

-- no breakpoint stops where there is none
pub none_stops : (s : State) → stops_at [] s ≡ true → ⊥
none_stops s e = and_false (not (is_some s.content)) e
