-- How many rows are taken of a session. All of this is this project's own.
use Rattle.std.specs.Prelude.{◌≡◌, ◌<◌, ◌⊎◌, ℕ, zero, suc, ◌+◌, ◌-◌, ◌^◌, ◌==◌, ◌||◌, Bool, true, List, [], Some, if◌then◌else◌, slice_get}
use Rattle.std.specs.Option.{option_map_or}
use Rattle.spec_avro.specs.Options.{given}
use Rattle.spec_machine.specs.Program.{Program}
use Rattle.spec_machine.specs.Row.{row_of}
use Rattle.spec_machine.specs.State.{State}
use Rattle.spec_machine.specs.Memory.{GoesOn, MayGrow}
use Rattle.spec_machine.specs.Breakpoints.{stops_at}
use Rattle.spec_sessions.specs.Session.{Session, state_of}

-- as many rows were taken as can be counted
abbrev pub is_counted_out : State → Bool
is_counted_out s = s.count == 2 ^ 64 - 1

module _ (P : Program) (input : List ℕ) (ended : Bool) where
  -- how many rows are taken from a state on: no more than are asked for, none at a breakpoint at which no content is
  -- begun, and none that cannot be counted
  unfoldable pub slice_from : List ℕ → ℕ → State → ℕ
  slice_from breaks zero s = 0
  slice_from breaks (suc k) s = if is_counted_out s || stops_at breaks s then 0
      else given (row_of P input ended s) 0 (λ (next : State). 1 + slice_from breaks k next)

  -- as `slice_from`, but the first row may be at a breakpoint
  abbrev pub go_from : List ℕ → ℕ → State → ℕ
  go_from breaks zero s = 0
  go_from breaks (suc k) s = if is_counted_out s then 0
      else given (row_of P input ended s) 0 (λ (next : State). 1 + slice_from breaks k next)

-- of a session that memory has ended no row is taken
abbrev pub rows_of : Session → (State → ℕ) → ℕ
rows_of s rows = if s.out_of_memory then 0 else option_map_or rows (state_of s) 0

-- the rows that are taken under these breakpoints
abbrev pub rows_under : List ℕ → ℕ → Session → ℕ
rows_under breaks k s = rows_of s (slice_from s.program s.bytes s.closed breaks k)

-- the rows that a slice takes
abbrev pub slice_rows : ℕ → Session → ℕ
slice_rows k s = rows_under s.breaks k s

-- the rows that a walk takes, which heeds no breakpoint
abbrev pub walk_rows : ℕ → Session → ℕ
walk_rows n s = rows_under [] n s

-- the breakpoints that are heeded: all of a session's, or none
abbrev pub heeded : Bool → Session → List ℕ
heeded heeds s = if heeds then s.breaks else []

-- the rows that are taken to go on from a breakpoint
abbrev pub go_rows : ℕ → Session → ℕ
go_rows n s = rows_of s (go_from s.program s.bytes s.closed s.breaks n)

-- the next row may need memory: its instruction may grow something, and it ends the run in no fault and no trap
abbrev pub NextMayGrow : Session → Type 0
NextMayGrow s = (state : State) × (state_of s ≡ Some state) × MayGrow (slice_get s.program.code state.pc)
    × GoesOn state (row_of s.program s.bytes s.closed state)

-- All these rows were taken; or fewer, and then want of memory has ended the session, at a row that may want it.
abbrev pub TakesRows : ℕ → Session → ℕ → Session → Type 0
TakesRows all old rows new = ((rows ≡ all) × (new ≡ record old { count = old.count + rows }))
    ⊎ ((rows < all) × (new ≡ record old { count = old.count + rows; out_of_memory = true }) × NextMayGrow new)
