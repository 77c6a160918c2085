-- A session: a program that is run on bytes that come in pieces, with breakpoints. All of this is this project's own.
use Rattle.std.specs.Prelude.{◌==◌, ℕ, List, [], ◌∷◌, ◌++◌, filter, Bool, false, not, if◌then◌else◌, Option, Some, option_map}
use Rattle.std.specs.List.{list_any}
use Rattle.std.specs.Option.{option_and_then}
use Rattle.spec_avro.specs.Outcome.{Outcome}
use Rattle.spec_machine.specs.declared.trap.Trap.{Trap}
use Rattle.spec_machine.specs.Program.{Program}
use Rattle.spec_machine.specs.State as state
use Rattle.spec_machine.specs.State.{State}
use Rattle.spec_machine.specs.Alone.{run_alone}

pub record Session : Type 0 where
  pub program : Program
  -- the pieces that came, joined
  pub bytes : List ℕ
  -- whether no more come
  pub closed : Bool
  -- the breakpoints, in the order in which they were set
  pub breaks : List ℕ
  -- how many rows were taken
  pub count : ℕ
  -- whether want of memory has ended it
  pub out_of_memory : Bool

-- before the first piece and the first row
abbrev pub begun : Program → Session
begun P = record { program = P; bytes = []; closed = false; breaks = []; count = 0; out_of_memory = false }

-- what its machine is: the program run alone on its bytes, as many rows on as it counts
abbrev pub state_of : Session → Option State
state_of s = run_alone s.program s.bytes s.closed s.count

-- ---- how it ends

pub data SessionEnd : Type 0 where
  Out : Outcome → SessionEnd
  Trapped : Trap → SessionEnd
  OutOfMemory : SessionEnd

abbrev pub session_end : state.End → SessionEnd
session_end (state.Out outcome) = Out outcome
session_end (state.Trapped trap) = Trapped trap

-- how its machine ended
abbrev pub machine_end : Session → Option state.End
machine_end s = option_and_then (λ (t : State). t.end) (state_of s)

abbrev pub end_in : Session → Option SessionEnd
end_in s = if s.out_of_memory then Some OutOfMemory else option_map session_end (machine_end s)

-- ---- breakpoints

abbrev pub has_break : ℕ → List ℕ → Bool
has_break address breaks = list_any (λ b. b == address) breaks

-- one that is there is not set again
abbrev pub with_break : ℕ → List ℕ → List ℕ
with_break address breaks = if has_break address breaks then breaks else breaks ++ address ∷ []

abbrev pub without_break : ℕ → List ℕ → List ℕ
without_break address breaks = filter (λ b. not (b == address)) breaks
