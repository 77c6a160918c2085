-- What happens to one session, and what is replied. All of this is this project's own.
use Rattle.std.specs.Prelude.{◌≡◌, ◌≢◌, ◌<◌, ℕ, false, List, length, Result, Ok, Err, IfErr}
use Rattle.spec_sessions.specs.declared.session_refusal.BreakRefusal.{BreakRefusal}
use Rattle.spec_sessions.specs.declared.session_refusal.BreakRefusal.TheVariants as breaks
use Rattle.spec_sessions.specs.declared.session_refusal.ClearRefusal.{ClearRefusal}
use Rattle.spec_sessions.specs.declared.session_refusal.ClearRefusal.TheVariants as clears
use Rattle.spec_sessions.specs.declared.session_refusal.PieceRefusal.{PieceRefusal}
use Rattle.spec_sessions.specs.declared.session_refusal.PieceRefusal.TheVariants as pieces
use Rattle.spec_sessions.specs.Changes.{Maybe, Surely, break_refusal, clear_refusal, cleared_at, finished, piece_refusal, refused, set_at, with_piece}
use Rattle.spec_sessions.specs.Rows.{TakesRows, go_rows, slice_rows, walk_rows}
use Rattle.spec_sessions.specs.Session.{Session, has_break}
use Rattle.spec_sessions.specs.declared.reply.EventReply.{EventReply}
use Rattle.spec_sessions.specs.declared.reply.EventReply.TheVariants.{Done, Refused, Rows}
use Rattle.spec_sessions.specs.declared.refusal.EventRefusal.{EventRefusal}
use Rattle.spec_sessions.specs.declared.refusal.EventRefusal.TheVariants.{TooLarge, Ended, BadAddress, TooManyBreaks, NoMemory, NotHeld}
use Rattle.spec_sessions.specs.Event.{Act, Break, Clear, Finish, Go, Piece, Refuse, Slice, Steal, Walk}
use Rattle.spec_sessions.specs.World.{Held}

abbrev pub with_session : Session → Held → Held
with_session s held = record held { session = s }

-- ---- what is replied where a session refused what it was asked

abbrev pub of_piece : PieceRefusal → EventRefusal
of_piece pieces.TooLarge = TooLarge
of_piece pieces.Ended = Ended
of_piece pieces.NoMemory = NoMemory

abbrev pub of_break : BreakRefusal → EventRefusal
of_break breaks.BadAddress = BadAddress
of_break breaks.TooManyBreaks = TooManyBreaks
of_break breaks.NoMemory = NoMemory

abbrev pub of_clear : ClearRefusal → EventRefusal
of_clear clears.BadAddress = BadAddress

-- where it did what it was asked, or refused it
abbrev pub reply_by : {E : Type 0} → (E → EventRefusal) → Result (Unit {0}) E → EventReply
reply_by refusal_of (Ok u) = Done
reply_by refusal_of (Err e) = Refused (refusal_of e)

-- ---- acts

-- Bytes are added, or refused as a session does. No bytes take no memory.
abbrev pub TakesPiece : List ℕ → EventReply → Held → Held → Type 0
TakesPiece bytes reply old new = (done : Result (Unit {0}) PieceRefusal) × (reply ≡ reply_by of_piece done)
    × Maybe pieces.NoMemory (piece_refusal bytes old.session) (with_piece bytes old.session) done
    old.session new.session
    × IfErr done (λ e. e ≡ pieces.NoMemory → 0 < length bytes) × (new ≡ with_session new.session old)

-- A breakpoint is set. One that is set already takes no memory.
abbrev pub SetsBreak : ℕ → EventReply → Held → Held → Type 0
SetsBreak address reply old new = (done : Result (Unit {0}) BreakRefusal) × (reply ≡ reply_by of_break done)
    × Maybe breaks.NoMemory (break_refusal address old.session) (set_at address old.session) done
    old.session new.session
    × IfErr done (λ e. e ≡ breaks.NoMemory → has_break address old.session.breaks ≡ false)
    × (new ≡ with_session new.session old)

-- a breakpoint is cleared
abbrev pub ClearsBreak : ℕ → EventReply → Held → Held → Type 0
ClearsBreak address reply old new = (done : Result (Unit {0}) ClearRefusal) × (reply ≡ reply_by of_clear done)
    × Surely (clear_refusal address old.session) (cleared_at address old.session) done old.session new.session
    × (new ≡ with_session new.session old)

-- All these rows are taken; or memory is refused, and then some fewer, and the session has ended there, at a row that
-- may want it.
abbrev pub Takes : ℕ → EventReply → Held → Held → Type 0
Takes all (Rows rows) old new = TakesRows all old.session rows new.session × (new ≡ with_session new.session old)
Takes all reply old new = ⊥

-- a slice is taken by the holder alone
abbrev pub Slices : ℕ → ℕ → EventReply → Held → Held → Type 0
Slices worker k (Refused NotHeld) old new = (old.holder ≢ worker) × (new ≡ old)
Slices worker k reply old new = (old.holder ≡ worker) × Takes (slice_rows k old.session) reply old new

abbrev pub Acts : Act → EventReply → Held → Held → Type 0
Acts (Piece bytes) reply old new = TakesPiece bytes reply old new
Acts Finish reply old new = (reply ≡ Done) × (new ≡ with_session (finished old.session) old)
Acts (Slice worker k) reply old new = Slices worker k reply old new
Acts (Steal worker) reply old new = (reply ≡ Done) × (new ≡ record old { holder = worker })
Acts (Break address) reply old new = SetsBreak address reply old new
Acts (Clear address) reply old new = ClearsBreak address reply old new
Acts (Walk n) reply old new = Takes (walk_rows n old.session) reply old new
Acts (Go n) reply old new = Takes (go_rows n old.session) reply old new
Acts Refuse reply old new = (reply ≡ Done) × (new ≡ with_session (refused old.session) old)
