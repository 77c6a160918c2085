-- Why a breakpoint is not set or cleared. All of this is this project's own.
use Rattle.spec_sessions.specs.declared.session_refusal.BreakRefusal.{BreakRefusal}
use Rattle.spec_sessions.specs.declared.session_refusal.BreakRefusal.TheVariants as breaks
use Rattle.spec_sessions.specs.declared.session_refusal.ClearRefusal.{ClearRefusal}
use Rattle.spec_sessions.specs.declared.session_refusal.ClearRefusal.TheVariants as clears
use Rattle.session_pool.specs.declared.debug_error.DebugError.{DebugError}
use Rattle.session_pool.specs.declared.debug_error.DebugError.TheVariants.{BadAddress, NoMemory, TooManyBreaks}

-- the refusal of a session
abbrev pub break_error : BreakRefusal → DebugError
break_error breaks.BadAddress = BadAddress
break_error breaks.TooManyBreaks = TooManyBreaks
break_error breaks.NoMemory = NoMemory

abbrev pub clear_error : ClearRefusal → DebugError
clear_error clears.BadAddress = BadAddress
