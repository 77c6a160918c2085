-- What other calls do to a session, and why they are refused. All of this is this project's own.
use Rattle.std.specs.Prelude.{◌≡◌, ◌≢◌, ℕ, ◌+◌, List, ◌++◌, length, nat_le, nat_lt, true, if◌then◌else◌, Option, Some, None, Result, Ok, Err, is_some}
use Rattle.spec_avro.specs.declared.limits.TheConstants.{MOST_PAYLOAD}
use Rattle.spec_sessions.specs.declared.limits.TheConstants.{MOST_BREAKS}
use Rattle.spec_sessions.specs.declared.session_refusal.BreakRefusal.{BreakRefusal}
use Rattle.spec_sessions.specs.declared.session_refusal.BreakRefusal.TheVariants.{BadAddress, TooManyBreaks}
use Rattle.spec_sessions.specs.declared.session_refusal.ClearRefusal.{ClearRefusal}
use Rattle.spec_sessions.specs.declared.session_refusal.ClearRefusal.TheVariants as clears
use Rattle.spec_sessions.specs.declared.session_refusal.PieceRefusal.{PieceRefusal}
use Rattle.spec_sessions.specs.declared.session_refusal.PieceRefusal.TheVariants.{TooLarge, Ended}
use Rattle.spec_sessions.specs.Session.{Session, end_in, with_break, without_break}

-- ---- pieces

-- a piece that would pass the limit, and then one that comes after the last
abbrev pub piece_refusal : List ℕ → Session → Option PieceRefusal
piece_refusal piece s = if nat_lt MOST_PAYLOAD (length s.bytes + length piece) then Some TooLarge
    else if s.closed then Some Ended else None

abbrev pub with_piece : List ℕ → Session → Session
with_piece piece s = record s { bytes = s.bytes ++ piece }

abbrev pub finished : Session → Session
finished s = record s { closed = true }

-- ---- breakpoints

-- an address that is none of the program's, and then one more breakpoint than there may be
abbrev pub break_refusal : ℕ → Session → Option BreakRefusal
break_refusal address s = if nat_le (length s.program.code) address then Some BadAddress
    else if nat_lt MOST_BREAKS (length (with_break address s.breaks)) then Some TooManyBreaks else None

abbrev pub clear_refusal : ℕ → Session → Option ClearRefusal
clear_refusal address s = if nat_le (length s.program.code) address then Some clears.BadAddress else None

abbrev pub set_at : ℕ → Session → Session
set_at address s = record s { breaks = with_break address s.breaks }

abbrev pub cleared_at : ℕ → Session → Session
cleared_at address s = record s { breaks = without_break address s.breaks }

-- ---- want of memory, by command

abbrev pub refused : Session → Session
refused s = if is_some (end_in s) then s else record s { out_of_memory = true }

-- ---- answers

-- It is done, or the refusal is returned and nothing changes.
abbrev pub Surely : {E : Type 0} → Option E → Session → Result (Unit {0}) E → Session → Session → Type 0
Surely refusal done (Ok u) old new = (refusal ≡ None) × (new ≡ done)
Surely refusal done (Err e) old new = (refusal ≡ Some e) × (new ≡ old)

-- As `Surely`, except that memory may run out where it would be done, which changes nothing either.
abbrev pub Maybe : {E : Type 0} → E → Option E → Session → Result (Unit {0}) E → Session → Session → Type 0
Maybe no_memory refusal done (Ok u) old new = (refusal ≡ None) × (new ≡ done)
Maybe no_memory refusal done (Err e) old new =
    ((e ≡ no_memory → refusal ≡ None) × (e ≢ no_memory → refusal ≡ Some e)) × (new ≡ old)
