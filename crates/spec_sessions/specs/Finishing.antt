-- What a session came to. All of this is this project's own.
use Rattle.std.specs.Prelude.{◌≡◌, ◌≤◌, ℕ, List, Some, None}
use Rattle.spec_avro.specs.Node.{Node}
use Rattle.spec_machine.specs.State as state
use Rattle.spec_machine.specs.State.{State}
use Rattle.spec_machine.specs.Alone.{run_alone}
use Rattle.spec_avro.specs.PayloadOutcome.{IsOutcome}
use Rattle.spec_sessions.specs.SessionEnding.{end_of}
use Rattle.spec_sessions.specs.Session.{OutOfMemory, Out, SessionEnd, Trapped}
use Rattle.spec_sessions.specs.Account.{Account}
use Rattle.spec_sessions.specs.declared.finished.Finished.{Finished}
use Rattle.spec_sessions.specs.Pass.{Pass}

-- The end is the outcome of all that was sent, to which the machine came; or memory ended the session, and its machine
-- has no end. It is never a trap.
abbrev pub IsEnd : List Node → List Node → List ℕ → SessionEnd → State → Type 0
IsEnd W R sent (Out outcome) s = (s.end ≡ Some (state.Out outcome)) × IsOutcome W R sent outcome
IsEnd W R sent (Trapped trap) s = ⊥
IsEnd W R sent OutOfMemory s = s.end ≡ None

-- The program of the pass's pair, run alone on all that was sent, came to a state after as many rows as are reported,
-- no fewer than were reported before; and the end is that of this state.
pub record Finishes (pass : Pass) (a : Account) (finished : Finished) : Type 0 where
  pub seen : a.seen ≤ finished.rows
  pub state : State
  pub alone : run_alone pass.pair.program a.sent a.closed finished.rows ≡ Some state
  pub end : IsEnd pass.pair.writer.nodes pass.pair.reader.nodes a.sent (end_of finished.end) state
