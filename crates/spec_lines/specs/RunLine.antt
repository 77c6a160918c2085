-- The line of a run. All of this is this project's own.
use Rattle.std.specs.Prelude.{ℕ, List, ◌++◌, codes, Option, Some, None}
use Rattle.std.specs.Fmt.{decimal}
use Rattle.spec_lines.specs.OutcomeLine.{line_of}
use Rattle.spec_machine.specs.State.{End, Out, State, Trapped}
use Rattle.spec_machine.specs.declared.trap.Trap.{Trap}
use Rattle.spec_machine.specs.declared.trap.Trap.TheVariants as traps

abbrev pub name_of_trap : Trap → List ℕ
name_of_trap traps.NoFrame = codes "NoFrame"
name_of_trap traps.NoBuffer = codes "NoBuffer"
name_of_trap traps.TooManyCalls = codes "TooManyCalls"
name_of_trap traps.NoReturn = codes "NoReturn"
name_of_trap traps.BadSlot = codes "BadSlot"
name_of_trap traps.OpenAtHalt = codes "OpenAtHalt"
name_of_trap traps.OffEnd = codes "OffEnd"

-- how a run ended, or that it goes on
abbrev pub text_of_end : Option End → List ℕ
text_of_end (Some (Out outcome)) = line_of outcome
text_of_end (Some (Trapped t)) = codes "trap " ++ name_of_trap t
text_of_end None = codes "running"

-- the line of a run, without its LF
abbrev pub line_of_run : State → List ℕ
line_of_run s = text_of_end s.end ++ codes " count " ++ decimal s.count
