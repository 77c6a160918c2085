-- What a debugger's command does to a session, and what is answered. All of this is this project's own.
use Rattle.std.specs.Prelude.{◌≡◌, false, Some, None, Result, Ok, Err, string_bytes}
use Rattle.spec_lines.specs.ShownSessions.{Lists, Shows}
use Rattle.spec_sessions.specs.declared.session_refusal.BreakRefusal.TheVariants as breaks
use Rattle.spec_sessions.specs.declared.session_refusal.ClearRefusal.TheVariants as clears
use Rattle.spec_sessions.specs.Changes.{break_refusal, clear_refusal, cleared_at, set_at}
use Rattle.spec_sessions.specs.Rows.{TakesRows, go_rows, walk_rows}
use Rattle.spec_sessions.specs.Session.{Session, has_break, with_break, without_break}
use Rattle.session_pool_slots.specs.Words.{with_worker}
use Rattle.spec_sessions.specs.Account.{Account}
use Rattle.session_pool_slots.specs.Account.{with_breaks, with_seen}
use Rattle.session_pool.specs.declared.debug_error.DebugError.{DebugError}
use Rattle.session_pool.specs.declared.debug_error.DebugError.TheVariants.{BadAddress, Busy, NoMemory, TooManyBreaks}
use Rattle.session_pool.specs.declared.debugging.DebugCommand.{DebugCommand}
use Rattle.session_pool.specs.declared.debugging.DebugCommand.TheVariants as ask
use Rattle.session_pool.specs.declared.debugging.DebugReply.{DebugReply}
use Rattle.session_pool.specs.declared.debugging.DebugReply.TheVariants.{Done, Rows, Text}
use Rattle.session_pool.specs.declared.pool.ClientSeat.{ClientSeat}
use Rattle.spec_sessions.specs.Pass.{Pass}
use Rattle.session_pool.specs.Seats.{Finds, HandsBack, HandsNothing, LetsGoOn, left, told}

-- What the command makes of a session, and what is answered.
abbrev pub Obeys : DebugCommand → Session → DebugReply → Session → Type 0
Obeys (ask.Set address) before Done after = (break_refusal address before ≡ None) × (after ≡ set_at address before)
Obeys (ask.Clear address) before Done after =
    (clear_refusal address before ≡ None) × (after ≡ cleared_at address before)
Obeys (ask.Step limit) before (Rows rows) after = TakesRows (walk_rows limit before) before rows after
Obeys (ask.Go limit) before (Rows rows) after = TakesRows (go_rows limit before) before rows after
Obeys ask.Show before (Text text) after = Shows before (string_bytes text) × (after ≡ before)
Obeys ask.List before (Text text) after = Lists before (string_bytes text) × (after ≡ before)
Obeys command before reply after = ⊥

-- The account once the command was obeyed: it has the new breakpoints, or the rows of the session that was given back.
abbrev pub account_after : DebugCommand → Account → Session → Account
account_after (ask.Set address) old after = with_breaks (with_break address old.breaks) old
account_after (ask.Clear address) old after = with_breaks (without_break address old.breaks) old
account_after (ask.Step limit) old after = with_seen after.count old
account_after (ask.Go limit) old after = with_seen after.count old
account_after ask.Show old after = with_seen after.count old
account_after ask.List old after = old

-- Why a command is refused of a session that was taken. Memory runs out for a breakpoint that is not set yet, and for
-- a text.
abbrev pub Refuses : DebugCommand → Session → DebugError → Type 0
Refuses (ask.Set address) session BadAddress = break_refusal address session ≡ Some breaks.BadAddress
Refuses (ask.Set address) session TooManyBreaks = break_refusal address session ≡ Some breaks.TooManyBreaks
Refuses (ask.Set address) session NoMemory =
    (break_refusal address session ≡ None) × (has_break address session.breaks ≡ false)
Refuses (ask.Clear address) session BadAddress = clear_refusal address session ≡ Some clears.BadAddress
Refuses ask.Show session NoMemory = Unit {0}
Refuses ask.List session NoMemory = Unit {0}
Refuses command session error = ⊥

-- What is answered where the call took the session as `before` and gave it back as `after`: the command was obeyed, or
-- refused, and then neither the session nor the account has changed.
abbrev pub Answers : DebugCommand → Account → Session → Result DebugReply DebugError → Session → Account → Type 0
Answers command old before (Ok reply) after new =
    Obeys command before reply after × (new ≡ account_after command old after)
Answers command old before (Err error) after new = Refuses command before error × (after ≡ before) × (new ≡ old)

-- A worker had the session, and the call found it so; or the call took the session and gave it back.
abbrev pub Debugs : DebugCommand → ClientSeat → Pass → Result DebugReply DebugError → ClientSeat → Type 0
Debugs command old pass (Err Busy) new =
    Finds old pass with_worker new × HandsNothing old new × (told new pass ≡ told old pass)
Debugs command old pass result new = (before : Session) × (after : Session) × HandsBack old pass before after new
    × Answers command (told old pass) before result after (told new pass)

-- The word that is left: what lets the session go on leaves it ready, or ended; where a worker had it the word was not
-- touched; all else leaves the word that it found.
abbrev pub LeavesDone : DebugCommand → Type 0 → Type 0 → Type 0
LeavesDone (ask.Clear address) goes_on found = goes_on
LeavesDone (ask.Step limit) goes_on found = goes_on
LeavesDone (ask.Go limit) goes_on found = goes_on
LeavesDone (ask.Set address) goes_on found = found
LeavesDone ask.Show goes_on found = found
LeavesDone ask.List goes_on found = found

abbrev pub LeavesBy : DebugCommand → Result DebugReply DebugError → Type 0 → Type 0 → Type 0 → Type 0
LeavesBy command (Ok reply) goes_on untouched found = LeavesDone command goes_on found
LeavesBy command (Err Busy) goes_on untouched found = untouched
LeavesBy command (Err error) goes_on untouched found = found

abbrev pub Leaves : DebugCommand → Result DebugReply DebugError → ClientSeat → Pass → ClientSeat → Type 0
Leaves command result old pass new =
    LeavesBy command result (LetsGoOn new pass) (left new pass ≡ left old pass) (Finds old pass (left new pass) new)
