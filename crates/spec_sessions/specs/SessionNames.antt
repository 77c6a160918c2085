-- The names of the reasons for which a call of a session is refused. All of this is this project's own.
use Rattle.std.specs.Prelude.{ℕ, List, codes}
use Rattle.spec_sessions.specs.declared.session_refusal.BreakRefusal.{BreakRefusal}
use Rattle.spec_sessions.specs.declared.session_refusal.BreakRefusal.TheVariants as breaks
use Rattle.spec_sessions.specs.declared.session_refusal.ClearRefusal.{ClearRefusal}
use Rattle.spec_sessions.specs.declared.session_refusal.ClearRefusal.TheVariants as clears
use Rattle.spec_sessions.specs.declared.session_refusal.PieceRefusal.{PieceRefusal}
use Rattle.spec_sessions.specs.declared.session_refusal.PieceRefusal.TheVariants as pieces

abbrev pub piece_refusal_name : PieceRefusal → List ℕ
piece_refusal_name pieces.TooLarge = codes "TooLarge"
piece_refusal_name pieces.Ended = codes "Ended"
piece_refusal_name pieces.NoMemory = codes "NoMemory"

abbrev pub break_refusal_name : BreakRefusal → List ℕ
break_refusal_name breaks.BadAddress = codes "BadAddress"
break_refusal_name breaks.TooManyBreaks = codes "TooManyBreaks"
break_refusal_name breaks.NoMemory = codes "NoMemory"

abbrev pub clear_refusal_name : ClearRefusal → List ℕ
clear_refusal_name clears.BadAddress = codes "BadAddress"
