-- What the search for a free slot comes to.
use Rattle.std.specs.Prelude.{◌≡◌, ◌<◌, ℕ, List, [], ◌∷◌, ◌++◌, Option, Some, None}
use Rattle.spec_machine.specs.Program.{Program}
use Rattle.spec_sessions.specs.Session.{Session, begun}
use Rattle.session_pool_slots.specs.Words.{free, ready, slots}
use Rattle.session_pool_slots.specs.Steps.{handing, new_pass, pass_in}
use Rattle.session_pool_slots.specs.Results.{Claimed, HasSame, IsOccupied, Others, Searched, words_of}
use Rattle.session_pool_slots.specs.declared.slots.SlotSeat.{SlotSeat}
use Rattle.session_pool_slots.specs.Account.{new_account, opened}
use Rattle.session_pool_slots.specs.Known.{Known, pass_of}
use Rattle.session_pool_slots.specs.Seats.{HoldsNothing, knows}

-- The client claimed the slot for this session, and what the slot kept is out with it.
pub record HasClaimed (old : SlotSeat) (slot : ℕ) (session : Session) (new : SlotSeat) : Type 0 where
  pub claimed : Claimed opened (knows old) slot session (knows new)
  pub kept : Option Session
  pub holds : new.seat.me.1 ≡ (slot, kept) ∷ []

-- the slot was passed: the words that were found of it are those of one that is taken
pub record LooksTaken (old : SlotSeat) (slot : ℕ) (new : SlotSeat) : Type 0 where
  pub words : List ℕ
  pub taken : IsOccupied words
  pub found : (knows new).found ≡ (knows old).found ++ words_of slot words
  pub holds : HoldsNothing new
  pub same : HasSame (knows old) (knows new)

-- the slot is claimed for this session, and what it kept is out
pub record IsClaimed (slot : ℕ) (session : Session) (seat : SlotSeat) : Type 0 where
  pub inside : slot < slots
  pub pass : pass_of slot (knows seat) ≡ Some (new_pass (opened session) session)
  pub kept : Option Session
  pub holds : seat.seat.me.1 ≡ (slot, kept) ∷ []

-- The slots below this one were found taken, in order, and this one free, when it was looked at and when it was
-- claimed; the client has a pass for it, and gave a session of the program that begins back there, ready: that is what
-- it took there, and gave back.
pub record HasBegun (v : Known) (slot : ℕ) (program : Program) (w : Known) : Type 0 where
  pub inside : slot < slots
  pub found : Searched IsOccupied v slot (free ∷ free ∷ []) w
  -- the client had no pass for it
  pub fresh : pass_of slot v ≡ None
  pub now : pass_of slot w ≡ Some (pass_in (new_account program) ready)
  pub handed : w.handed ≡ v.handed ++ handing slot (begun program) (begun program) ready ∷ []
  pub others : Others v slot w

-- all slots were found taken, in order, and nothing else has changed
pub record FindsNoneFree (v w : Known) : Type 0 where
  pub found : Searched IsOccupied v slots [] w
  pub same : HasSame v w
