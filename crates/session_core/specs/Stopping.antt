-- Why no more rows were taken of a session. All of this is this project's own.
use Rattle.std.specs.Prelude.{◌≡◌, ℕ, Bool, true, false, List, Some}
use Rattle.spec_machine.specs.State.{State}
use Rattle.machine.specs.declared.slice.Why.{Why}
use Rattle.machine.specs.declared.slice.Why.TheVariants as whys
use Rattle.machine.specs.Slice.{IsWhy}
use Rattle.session_core.specs.declared.session.Stopped.{Stopped}
use Rattle.session_core.specs.declared.session.Stopped.TheVariants.{Ended, Spent, Broke, Waits}
use Rattle.spec_sessions.specs.Session.{Session, state_of}

-- want of memory ends a session
abbrev pub stopped_of : Why → Stopped
stopped_of whys.Ended = Ended
stopped_of whys.Spent = Spent
stopped_of whys.Broke = Broke
stopped_of whys.Waits = Waits
stopped_of whys.NoMemory = Ended

-- the reason of a machine
abbrev pub why_of : Stopped → Why
why_of Ended = whys.Ended
why_of Spent = whys.Spent
why_of Broke = whys.Broke
why_of Waits = whys.Waits

-- A session that memory has ended stopped for that. Of another it is the first reason that is true of the state that it
-- is in, as of a machine.
abbrev pub IsStoppedAs : Bool → List ℕ → ℕ → ℕ → Stopped → Session → Type 0
IsStoppedAs true breaks k rows stopped s = stopped ≡ Ended
IsStoppedAs false breaks k rows stopped s = (state : State) × (state_of s ≡ Some state)
    × IsWhy s.program s.bytes s.closed breaks (why_of stopped) k rows state

-- why a session stopped, of which `rows` rows were taken where at most k were asked for, under these breakpoints
abbrev pub IsStopped : List ℕ → ℕ → ℕ → Stopped → Session → Type 0
IsStopped breaks k rows stopped s = IsStoppedAs s.out_of_memory breaks k rows stopped s
