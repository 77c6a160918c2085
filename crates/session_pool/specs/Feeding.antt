-- Why a piece is refused. All of this is this project's own.
use Rattle.std.specs.Prelude.{◌≡◌, ◌<◌, ℕ, ◌+◌, List, length, true}
use Rattle.spec_avro.specs.declared.limits.TheConstants.{MOST_PAYLOAD}
use Rattle.spec_sessions.specs.declared.session_refusal.PieceRefusal.{PieceRefusal}
use Rattle.spec_sessions.specs.declared.session_refusal.PieceRefusal.TheVariants as session
use Rattle.spec_sessions.specs.Account.{Account}
use Rattle.session_pool.specs.declared.refusals.PieceError.{PieceError}
use Rattle.session_pool.specs.declared.refusals.PieceError.TheVariants.{Busy, Ended, NoMemory, TooLarge}
use Rattle.session_pool.specs.declared.pool.ClientSeat.{ClientSeat}
use Rattle.spec_sessions.specs.Pass.{Pass}
use Rattle.session_pool.specs.Seats.{Finds, left}

-- A worker had the session, and the call found it so; all bytes would pass the limit of a payload; no more were to
-- come; or memory ran out, for a piece with bytes.
abbrev pub IsWhyNoPiece : PieceError → Account → List ℕ → Type 0 → Type 0
IsWhyNoPiece Busy a piece found = found
IsWhyNoPiece TooLarge a piece found = MOST_PAYLOAD < length a.sent + length piece
IsWhyNoPiece Ended a piece found = a.closed ≡ true
IsWhyNoPiece NoMemory a piece found = 0 < length piece

-- The word that a refused piece leaves: where a worker had the session it was not touched, else it is the word that the
-- call found.
abbrev pub LeavesRefused : PieceError → ClientSeat → Pass → ClientSeat → Type 0
LeavesRefused Busy old pass new = left new pass ≡ left old pass
LeavesRefused why old pass new = Finds old pass (left new pass) new

-- the refusal of a session
abbrev pub piece_error : PieceRefusal → PieceError
piece_error session.TooLarge = TooLarge
piece_error session.Ended = Ended
piece_error session.NoMemory = NoMemory
