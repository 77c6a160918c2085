-- What a client's steps come to.
use Rattle.std.specs.Prelude.{◌≡◌, ◌⊎◌, ◌<◌, ℕ, [], ◌∷◌, Some, None}
use Rattle.spec_sessions.specs.Session.{Session}
use Rattle.session_pool_slots.specs.Words.{free, ready, slots, with_client}
use Rattle.session_pool_slots.specs.Results.{Missed, TookOut}
use Rattle.session_pool_slots.specs.declared.slots.SlotSeat.{SlotSeat}
use Rattle.session_pool_slots.specs.Account.{At, has_ended}
use Rattle.session_pool_slots.specs.Known.{Known, PassData, pass_of}
use Rattle.session_pool_slots.specs.Seats.{HoldsEmpty, HoldsNothing, knows}

-- The client has a pass for the slot, whose session is not out with it, and expects the word to be ready, or what it
-- found the word to be.
pub record Expects (v : Known) (slot expected : ℕ) : Type 0 where
  pub pass : PassData
  pub inside : slot < slots
  pub there : pass_of slot v ≡ Some pass
  pub home : pass.out ≡ None
  pub from : (expected ≡ ready) ⊎ ((free < expected) × (expected < with_client) × (pass.stood ≡ expected))

-- the client's session is out with it
pub record HasTaken (old : SlotSeat) (slot : ℕ) (pass : PassData) (word : ℕ) (new : SlotSeat) : Type 0 where
  pub session : Session
  pub took : TookOut At has_ended (knows old) slot pass word session (knows new)
  pub holds : new.seat.me.1 ≡ (slot, Some session) ∷ []

-- The client took this session out of the slot, whose word was this one.
pub record TakesOut (old : SlotSeat) (slot word : ℕ) (session : Session) (new : SlotSeat) : Type 0 where
  pub holds : HoldsEmpty slot new
  pub took : (pass : PassData) → pass_of slot (knows old) ≡ Some pass
      → TookOut At has_ended (knows old) slot pass word session (knows new)

-- a worker had it
pub record FindsBusy (old : SlotSeat) (slot : ℕ) (new : SlotSeat) : Type 0 where
  pub holds : HoldsNothing new
  pub missed : Missed (knows old) slot (knows new)
