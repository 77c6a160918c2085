-- How a session ends, and one of a pair of schemas. All of this is this project's own.
use Rattle.std.specs.Prelude.{◌≡◌, ◌≤◌, ◌<◌, ◌+◌, ◌^◌, ℕ, [], List, Some, is_some, true}
use Rattle.spec_avro.specs.Node.{Node}
use Rattle.spec_machine.specs.State.{State}
use Rattle.machine.specs.Ending.{LeadsToOutcome}
use Rattle.spec_machine.specs.Alone.{run_alone}
use Rattle.spec_machine.specs.Simulation.{EndsWithOutcome}
use Rattle.spec_sessions.specs.Session.{Session, end_in, state_of}

-- Its program run alone on the bytes that came has an end, within k rows more than were taken, all of which can be
-- counted.
pub record EndsWithin (k : ℕ) (s : Session) : Type 0 where
  pub rows : ℕ
  pub last : State
  pub runs : run_alone s.program s.bytes s.closed rows ≡ Some last
  pub ends : is_some last.end ≡ true
  pub few : rows ≤ s.count + k
  pub countable : rows < 2 ^ 64

-- A slice of at most k rows ends a session that has an end within k rows, where no breakpoint is set.
abbrev pub EndsInOneSlice : ℕ → Session → Session → Type 0
EndsInOneSlice k old new = EndsWithin k old → old.breaks ≡ [] → is_some (end_in new) ≡ true

-- its machine is in a state, which leads to the outcome of its bytes, as that of a run does
pub record SessionLeadsToOutcome (W R : List Node) (s : Session) : Type 0 where
  pub state : State
  pub alone : state_of s ≡ Some state
  pub leads : LeadsToOutcome W R s.program s.bytes s.closed state
  -- where they are all, it has an end within as many rows as the row bound allows, which one slice without breakpoints
  -- takes
  pub within : s.closed ≡ true → (whole : EndsWithOutcome W R s.program s.bytes) × EndsWithin whole.rows s
