-- For a private clause: what is refused of a piece.
use Rattle.std.specs.Prelude.{◌≡◌, ◌<◌, ℕ, List, length, Some, None}
use Rattle.spec_sessions.specs.declared.session_refusal.PieceRefusal.{PieceRefusal}
use Rattle.spec_sessions.specs.declared.session_refusal.PieceRefusal.TheVariants.{NoMemory}
use Rattle.spec_sessions.specs.Session.{Session}
use Rattle.spec_sessions.specs.Changes.{piece_refusal}

-- Why a piece is refused: that it would pass the limit or comes after the last, or else want of memory, if it has
-- bytes.
abbrev pub IsPieceRefusal : PieceRefusal → List ℕ → Session → Type 0
IsPieceRefusal NoMemory piece s = (piece_refusal piece s ≡ None) × (0 < length piece)
IsPieceRefusal why piece s = piece_refusal piece s ≡ Some why
