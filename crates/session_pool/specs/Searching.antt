-- How a worker comes to a session that is ready. All of this is this project's own.
use Rattle.std.specs.Prelude.{◌≡◌, ℕ, List, [], ◌++◌, Option, Some, None}
use Rattle.session_pool_slots.specs.Results.{Finds, HasNoted, HasSame, IsUnready, Searched}
use Rattle.session_pool_slots.specs.Views.{FoundWord}
use Rattle.session_pool_slots.specs.Words.{ready, slots}
use Rattle.session_pool_slots.specs.declared.slots.SlotSeat.{SlotSeat}
use Rattle.session_pool_slots.specs.Account.{has_ended}
use Rattle.session_pool_slots.specs.Known.{Known}
use Rattle.session_pool_slots.specs.Seats.{HoldsNothing, knows}

-- some words were found, and nothing else has changed
pub record Looks (v w : Known) : Type 0 where
  pub more : List FoundWord
  pub found : w.found ≡ v.found ++ more
  pub same : HasSame v w

-- Some words were found, and nothing else has changed: not even what is out with the seat.
pub record LooksOn (old new : SlotSeat) : Type 0 where
  pub looks : Looks (knows old) (knows new)
  pub notes : (knows new).notes ≡ (knows old).notes
  pub holds : new.seat.me.1 ≡ old.seat.me.1

-- jobs were looked into, and no session was taken
pub record LooksByJobs (old new : SlotSeat) : Type 0 where
  pub looks : Looks (knows old) (knows new)
  pub holds : HoldsNothing new

-- the session of this slot was taken, whose word was found ready in this call
pub record TakesByJob (old : SlotSeat) (slot : ℕ) (new : SlotSeat) : Type 0 where
  pub found : Finds (knows old) slot ready (knows new)
  pub same : HasSame (knows old) (knows new)
  pub noted : HasNoted has_ended new.seat.me slot

abbrev pub FindsByJobs : SlotSeat → Option ℕ → SlotSeat → Type 0
FindsByJobs old None new = LooksByJobs old new
FindsByJobs old (Some slot) new = TakesByJob old slot new

-- Jobs were looked into, and then all slots were looked at in order: none was found ready and taken.
pub record FindsNone (old new : SlotSeat) : Type 0 where
  pub jobs : Known
  pub looks : Looks (knows old) jobs
  pub scan : Searched IsUnready jobs slots [] (knows new)
  pub same : HasSame (knows old) (knows new)
  pub holds : HoldsNothing new

abbrev pub FindsReady : SlotSeat → Option ℕ → SlotSeat → Type 0
FindsReady old None new = FindsNone old new
FindsReady old (Some slot) new = TakesByJob old slot new
