-- What a session came to. All of this is this project's own.
use Rattle.std.specs.Prelude.{◌≡◌, ◌⊎◌, Some}
use Rattle.spec_machine.specs.State.{State}
use Rattle.spec_sessions.specs.SessionEnding.{end_of}
use Rattle.session_core.specs.SessionKept.{IsSession}
use Rattle.spec_sessions.specs.Session.{Session, end_in}
use Rattle.session_pool_slots.specs.Words.{ready, waiting, with_worker}
use Rattle.spec_sessions.specs.declared.finished.Finished.{Finished}
use Rattle.session_pool.specs.declared.pool.ClientSeat.{ClientSeat}
use Rattle.session_pool.specs.declared.refusals.NotYet.{NotYet}
use Rattle.session_pool.specs.declared.refusals.NotYet.TheVariants.{Busy, Pending}
use Rattle.spec_sessions.specs.Pass.{Pass}
use Rattle.session_pool.specs.Seats.{Finds, left}

-- the end and the count of a session that has ended, and the state that its machine is in
pub record EndsOf (session : Session) (finished : Finished) : Type 0 where
  pub rows : finished.rows ≡ session.count
  pub end : end_in session ≡ Some (end_of finished.end)
  pub state : State
  pub kept : IsSession session state

-- A worker had the session, and the call found it so; or the call found the word of one that has not ended, and left
-- it.
abbrev pub IsWhyNotYet : NotYet → ClientSeat → Pass → ClientSeat → Type 0
IsWhyNotYet Busy old pass new = Finds old pass with_worker new
IsWhyNotYet Pending old pass new =
    ((left new pass ≡ waiting) ⊎ (left new pass ≡ ready)) × Finds old pass (left new pass) new
