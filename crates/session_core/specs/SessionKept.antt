-- What holds of every session, and what makes it. All of this is this project's own.
use Rattle.std.specs.Prelude.{◌≡◌, ◌≤◌, ◌<◌, ℕ, ◌+◌, Bool, true, false, List, [], ◌∷◌, length, Some, None, if◌then◌else◌}
use Rattle.std.specs.List.{AllByRecursion}
use Rattle.spec_machine.specs.State.{State}
use Rattle.spec_avro.specs.declared.limits.TheConstants.{MOST_PAYLOAD}
use Rattle.spec_sessions.specs.declared.limits.TheConstants.{MOST_BREAKS}
use Rattle.spec_sessions.specs.Changes.{break_refusal, finished, piece_refusal, refused, set_at, with_piece}
use Rattle.spec_sessions.specs.Rows.{walk_rows}
use Rattle.spec_sessions.specs.Session.{Session, begun, has_break, state_of}

-- no address occurs twice
abbrev pub AreDistinct : List ℕ → Type 0
AreDistinct [] = Unit {0}
AreDistinct (address ∷ breaks) = (has_break address breaks ≡ false) × AreDistinct breaks

-- a session, and the state that its machine is in
pub record IsSession (s : Session) (state : State) : Type 0 where
  pub bytes : length s.bytes ≤ MOST_PAYLOAD
  pub few : length s.breaks ≤ MOST_BREAKS
  pub distinct : AreDistinct s.breaks
  pub in_code : AllByRecursion (λ address. address < length s.program.code) s.breaks
  -- its program run alone on its bytes comes to the state, as many rows on as it counts
  pub alone : state_of s ≡ Some state
  -- where memory ended it, its machine has no end
  pub unended : s.out_of_memory ≡ true → state.end ≡ None

-- ---- what makes it

-- breakpoints are set, one after another
abbrev pub with_breaks : List ℕ → Session → Session
with_breaks [] s = s
with_breaks (address ∷ breaks) s = with_breaks breaks (set_at address s)

-- and none of them is refused
abbrev pub AreSet : List ℕ → Session → Type 0
AreSet [] s = Unit {0}
AreSet (address ∷ breaks) s = (break_refusal address s ≡ None) × AreSet breaks (set_at address s)

abbrev pub finished_if : Bool → Session → Session
finished_if true s = finished s
finished_if false s = s

-- all rows of a walk are taken
abbrev pub walked : ℕ → Session → Session
walked n s = record s { count = s.count + walk_rows n s }

-- after a piece of its bytes, to a session of its program that has begun, and where it is closed the end of the payload
abbrev pub fed : Session → Session
fed s = finished_if s.closed (with_piece s.bytes (begun s.program))

-- after its breakpoints too, and a walk of as many rows as it counts
abbrev pub remade : Session → Session
remade s = walked s.count (with_breaks s.breaks (fed s))

-- A session is what these make, or that one ended by want of memory.
pub record IsMade (s : Session) : Type 0 where
  pub piece : piece_refusal s.bytes (begun s.program) ≡ None
  pub breaks : AreSet s.breaks (fed s)
  pub is : s ≡ (if s.out_of_memory then refused (remade s) else remade s)
