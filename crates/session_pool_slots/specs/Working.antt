-- What a worker's steps come to.
use Rattle.std.specs.Prelude.{◌≡◌, ◌≤◌, ℕ, List, [], ◌∷◌, ◌++◌}
use Rattle.session_core.specs.declared.session.Stopped.{Stopped}
use Rattle.session_core.specs.SessionEnding.{EndsInOneSlice}
use Rattle.spec_sessions.specs.Rows.{TakesRows, slice_rows}
use Rattle.spec_sessions.specs.Session.{Session}
use Rattle.session_core.specs.Stopping.{IsStopped}
use Rattle.session_pool_slots.specs.Words.{ready, slots}
use Rattle.session_pool_slots.specs.Steps.{handing}
use Rattle.session_pool_slots.specs.Results.{HasNoted, HasSame, IsUnready, Searched, words_of}
use Rattle.session_pool_slots.specs.declared.slots.SlotSeat.{SlotSeat}
use Rattle.session_pool_slots.specs.declared.taking.RunSlice.{RunSlice}
use Rattle.session_pool_slots.specs.Account.{has_ended}
use Rattle.session_pool_slots.specs.Known.{Known}
use Rattle.session_pool_slots.specs.Leaving.{word_after_slice}
use Rattle.session_pool_slots.specs.Seats.{HoldsNothing, knows}

-- The word of the slot was found to be this, and nothing else has changed: not even what is out with the seat.
pub record Sees (slot word : ℕ) (old new : SlotSeat) : Type 0 where
  pub found : (knows new).found ≡ (knows old).found ++ words_of slot (word ∷ [])
  pub same : HasSame (knows old) (knows new)
  pub notes : (knows new).notes ≡ (knows old).notes
  pub holds : new.seat.me.1 ≡ old.seat.me.1

-- the slot was passed: the words that were found of it are those of one that is not ready
pub record LooksUnready (old : SlotSeat) (slot : ℕ) (new : SlotSeat) : Type 0 where
  pub words : List ℕ
  pub unready : IsUnready words
  pub found : (knows new).found ≡ (knows old).found ++ words_of slot words
  pub holds : HoldsNothing new

-- the slots below this one were passed, in order, and the worker has the session of this one
pub record TakesFirst (old : SlotSeat) (slot : ℕ) (new : SlotSeat) : Type 0 where
  pub found : Searched IsUnready (knows old) slot (ready ∷ ready ∷ []) (knows new)
  pub noted : HasNoted has_ended new.seat.me slot

-- all slots were passed, in order
pub record FindsNoneReady (old new : SlotSeat) : Type 0 where
  pub found : Searched IsUnready (knows old) slots [] (knows new)
  pub holds : HoldsNothing new

-- The worker ran the session that it had taken of the slot, for a slice of at most `limit` rows, and gave it back with
-- the word that goes by why it stopped. With no breakpoint, a session that has an end within these rows has ended.
pub record Runs (v : Known) (slot limit : ℕ) (slice : RunSlice) (w : Known) : Type 0 where
  pub before : Session
  pub after : Session
  pub stopped : Stopped
  pub handed : w.handed ≡ v.handed ++ handing slot before after slice.word ∷ []
  pub takes : TakesRows (slice_rows limit before) before slice.rows after
  pub most : slice.rows ≤ limit
  pub why : IsStopped before.breaks limit slice.rows stopped after
  pub ends : EndsInOneSlice limit before after
  pub word : slice.word ≡ word_after_slice stopped
  pub found : w.found ≡ v.found
  pub passes : w.passes ≡ v.passes
