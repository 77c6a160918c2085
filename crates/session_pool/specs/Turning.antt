-- What a worker's turn reports. All of this is this project's own.
use Rattle.std.specs.Prelude.{◌≡◌, ◌<◌, ◌≤◌, ℕ, [], ◌∷◌, ◌++◌}
use Rattle.session_core.specs.declared.session.Stopped.{Stopped}
use Rattle.session_core.specs.SessionEnding.{EndsInOneSlice}
use Rattle.spec_sessions.specs.Rows.{TakesRows, slice_rows}
use Rattle.spec_sessions.specs.Session.{Session}
use Rattle.session_core.specs.Stopping.{IsStopped}
use Rattle.session_pool_slots.specs.Results.{Finds}
use Rattle.session_pool_slots.specs.Steps.{handing}
use Rattle.session_pool_slots.specs.Words.{ready, slots}
use Rattle.session_pool_slots.specs.Known.{Known}
use Rattle.session_pool_slots.specs.Leaving.{word_after_slice}
use Rattle.session_pool_slots.specs.Seats.{knows}
use Rattle.session_pool.specs.declared.pool.WorkerSeat.{WorkerSeat}
use Rattle.session_pool.specs.declared.turning.Turn.{Turn}
use Rattle.session_pool.specs.declared.turning.Turn.TheVariants.{Idle, Ran}
use Rattle.session_pool.specs.Searching.{FindsNone}

-- The worker took the session of this slot, which the call found ready, ran it for a slice of at most `limit` rows, and
-- gave it back with the word that goes by why it stopped. With no breakpoint, a session that has an end within these
-- rows has ended.
pub record HasRun (v : Known) (slot limit rows : ℕ) (w : Known) : Type 0 where
  pub inside : slot < slots
  pub found : Finds v slot ready w
  pub before : Session
  pub after : Session
  pub stopped : Stopped
  pub takes : TakesRows (slice_rows limit before) before rows after
  pub most : rows ≤ limit
  pub why : IsStopped before.breaks limit rows stopped after
  pub ends : EndsInOneSlice limit before after
  pub handed : w.handed ≡ v.handed ++ handing slot before after (word_after_slice stopped) ∷ []
  pub passes : w.passes ≡ v.passes

-- none was found ready, or one ran
abbrev pub Turned : WorkerSeat → ℕ → Turn → WorkerSeat → Type 0
Turned old limit Idle new = FindsNone old.slots new.slots
Turned old limit (Ran slot rows) new = HasRun (knows old.slots) slot limit rows (knows new.slots)

-- a closure was called once, with the slot of what ran, or it was not called
abbrev pub Calls : Turn → (ℕ → Type 0) → Type 0 → Type 0
Calls Idle once never = never
Calls (Ran slot rows) once never = once slot
