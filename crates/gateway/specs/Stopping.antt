-- Why a session that was opened comes to no outcome, and what is then left of it. All of this is this project's own.
use Rattle.std.specs.Prelude.{◌⊎◌, ℕ, ◌+◌, ⊤}
use Rattle.spec_service.specs.declared.transcode_fault.TranscodeFault.{TranscodeFault}
use Rattle.spec_service.specs.declared.transcode_fault.TranscodeFault.TheVariants.{NoProgram, Full, NotFinished, NoMemory}
use Rattle.session_pool.specs.declared.pool.ClientSeat.{ClientSeat}
use Rattle.spec_sessions.specs.Pass.{Pass}
use Rattle.session_pool.specs.Seats.{Finds, IsGone, KeepsAll, KeepsOthers}
use Rattle.session_pool_slots.specs.Words.{with_worker}
use Rattle.gateway.specs.declared.serving.TheConstants.{MOST_ABANDONS}

-- the gate said no, or memory ran out
abbrev pub IsWhyStopped : Type 0 → TranscodeFault → Type 0
IsWhyStopped said_no NotFinished = said_no
IsWhyStopped said_no NoMemory = ⊤
IsWhyStopped said_no (NoProgram why) = ⊥
IsWhyStopped said_no Full = ⊥

-- n calls, one after another, found that a worker had the session of the pass
pub data FindsBusy (pass : Pass) : ℕ → ClientSeat → ClientSeat → Type 0 where
  no_call : {seat : ClientSeat} → FindsBusy pass 0 seat seat
  one_more : {count : ℕ} {first before after : ClientSeat} → FindsBusy pass count first before
      → Finds before pass with_worker after → FindsBusy pass (count + 1) first after

-- a worker had the session at each of the tries to give it up
abbrev pub StaysBusy : Pass → ClientSeat → Type 0
StaysBusy pass seat = (first : ClientSeat) × FindsBusy pass MOST_ABANDONS first seat

-- the seat has no pass for the slot any more, and its others as they were; or the slot stays taken
abbrev pub IsGivenUp : ClientSeat → Pass → ClientSeat → Type 0
IsGivenUp old pass new = (IsGone new pass × KeepsOthers old pass new) ⊎ StaysBusy pass new

-- the seat has the passes that it had; or the slot of a session stays taken
abbrev pub LetsGo : ClientSeat → ClientSeat → Type 0
LetsGo old new = KeepsAll old new ⊎ ((pass : Pass) × StaysBusy pass new)
