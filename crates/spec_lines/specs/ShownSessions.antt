-- What a debugger shows of a session. All of this is this project's own.
use Rattle.std.specs.Prelude.{◌≡◌, ℕ, List, Some}
use Rattle.spec_machine.specs.Listing.{listing_of}
use Rattle.spec_machine.specs.State.{State}
use Rattle.spec_sessions.specs.Session.{Session, state_of}
use Rattle.spec_lines.specs.Show.{shown}

-- the text of the state that its machine is in, and that memory ran out where that ended it
abbrev pub Shows : Session → List ℕ → Type 0
Shows s text = (state : State) × (state_of s ≡ Some state) × (text ≡ shown state s.out_of_memory)

-- the listing of its program
abbrev pub Lists : Session → List ℕ → Type 0
Lists s text = text ≡ listing_of s.program
