-- What contracts say of a pool's seats and passes. All of this is this project's own.
use Rattle.std.specs.Prelude.{◌≡◌, ◌⊎◌, ℕ, [], ◌∷◌, ◌++◌, Option, Some, None}
use Rattle.spec_machine.specs.Program.{Program}
use Rattle.spec_sessions.specs.Session.{Session}
use Rattle.session_pool.specs.Calls.{IsEmpty}
use Rattle.session_pool.specs.JobSeats as jobs
use Rattle.session_pool_slots.specs.Results as results
use Rattle.session_pool_slots.specs.Steps.{handing}
use Rattle.session_pool_slots.specs.Words.{ended, free, ready}
use Rattle.spec_sessions.specs.Account.{Account}
use Rattle.session_pool_slots.specs.Account.{At, new_account}
use Rattle.session_pool_slots.specs.Known.{PassData, blank, pass_of}
use Rattle.session_pool_slots.specs.Seats as slots
use Rattle.session_pool_slots.specs.Seats.{knows}
use Rattle.session_pool.specs.declared.pool.ClientSeat.{ClientSeat}
use Rattle.session_pool.specs.declared.pool.SessionPool.{SessionPool}
use Rattle.session_pool.specs.declared.pool.WorkerSeat.{WorkerSeat}
use Rattle.spec_sessions.specs.Pass.{Pass}

-- ---- seats

-- the client's seat is of this pool, and no session is out with it
abbrev pub Rests : SessionPool → ClientSeat → Type 0
Rests pool seat = slots.Rests pool.slots seat.slots

-- the worker's seat and its jobs are of this pool, and no session is out with it
pub record RestsWorker (pool : SessionPool) (seat : WorkerSeat) : Type 0 where
  pub rests : slots.Rests pool.slots seat.slots
  pub jobs : jobs.IsSeatOf pool.jobs seat.jobs

-- a client's seat of this pool that knows nothing yet
pub record IsNewClient (pool : SessionPool) (seat : ClientSeat) : Type 0 where
  pub rests : Rests pool seat
  pub blank : knows seat.slots ≡ blank

-- a worker's seat of this pool that knows nothing yet, and has no jobs
pub record IsNewWorker (pool : SessionPool) (seat : WorkerSeat) : Type 0 where
  pub rests : RestsWorker pool seat
  pub blank : knows seat.slots ≡ blank
  pub empty : IsEmpty seat.jobs

-- ---- passes

abbrev pub account_or : Program → Option PassData → Account
account_or P None = new_account P
account_or P (Some pass) = pass.account

abbrev pub left_or : Option PassData → ℕ
left_or None = free
left_or (Some pass) = pass.left

-- what the calls with a pass have made of its session
abbrev pub told : ClientSeat → Pass → Account
told seat pass = account_or pass.pair.program (pass_of pass.slot (knows seat.slots))

-- the word with which the last of these calls left its slot
abbrev pub left : ClientSeat → Pass → ℕ
left seat pass = left_or (pass_of pass.slot (knows seat.slots))

-- The pass is of this seat: its session is not out with the seat, and runs the program that it was opened with.
pub record IsPassOf (seat : ClientSeat) (pass : Pass) : Type 0 where
  pub slot : results.HasIn (knows seat.slots) pass.slot
  pub program : (told seat pass).program ≡ pass.pair.program

-- the seat has no pass for the slot, so by the rule another has it, or it is free
abbrev pub IsGone : ClientSeat → Pass → Type 0
IsGone seat pass = pass_of pass.slot (knows seat.slots) ≡ None

-- what the seat knows of its other passes is as it was
abbrev pub KeepsOthers : ClientSeat → Pass → ClientSeat → Type 0
KeepsOthers old pass new = results.Others (knows old.slots) pass.slot (knows new.slots)

-- what the seat knows of all its passes is as it was
abbrev pub KeepsAll : ClientSeat → ClientSeat → Type 0
KeepsAll old new = (slot : ℕ) → pass_of slot (knows new.slots) ≡ pass_of slot (knows old.slots)

-- the call found the word of the pass's slot to be this
abbrev pub Finds : ClientSeat → Pass → ℕ → ClientSeat → Type 0
Finds old pass word new = results.Finds (knows old.slots) pass.slot word (knows new.slots)

-- The call took the session of the pass's slot as `before`, which fits its account, and gave it back as `after`, with
-- the word that is left; it gave back nothing else.
pub record HandsBack (old : ClientSeat) (pass : Pass) (before after : Session) (new : ClientSeat) : Type 0 where
  pub fits : At (told old pass) before
  pub handed : (knows new.slots).handed ≡ (knows old.slots).handed
      ++ handing pass.slot before after (left new pass) ∷ []

-- a call took one session and gave one back: its seat lists both
abbrev pub HandsBackOne : Type 0
HandsBackOne = (old : ClientSeat) (pass : Pass) (before other after next : Session) (new : ClientSeat)
    → HandsBack old pass before after new → HandsBack old pass other next new → (before ≡ other) × (after ≡ next)

-- the call gave back what `make` makes of the session that it took
abbrev pub HandsBackAs : (Session → Session) → ClientSeat → Pass → ClientSeat → Type 0
HandsBackAs make old pass new = (before : Session) × HandsBack old pass before (make before) new

-- the call gave nothing back
abbrev pub HandsNothing : ClientSeat → ClientSeat → Type 0
HandsNothing old new = (knows new.slots).handed ≡ (knows old.slots).handed

-- the call let the session go on, and left its slot ready, or ended where the session has ended
abbrev pub LetsGoOn : ClientSeat → Pass → Type 0
LetsGoOn seat pass = (left seat pass ≡ ready) ⊎ (left seat pass ≡ ended)
