-- What is answered so far goes before the answers of the lines that are left.
use Rattle.std.proofs.Common.{string_bytes, length}
use Rattle.spec_lines.specs.Lines.{lines}
use Rattle.spec_lines.specs.Debugging.{AnswersCommand, given}
use Rattle.commands.proofs.Folding.{Continues}
use Rattle.commands.proofs.session_debugging.answers.Given as goal

abbrev pub invariant-loop-line : goal.invariant-loop-line
invariant-loop-line l =
    Continues AnswersCommand (lines l.commands) (lines l.rest) (string_bytes l.output) (given l.program l.payload) l.session

abbrev pub decreases-loop-line : goal.decreases-loop-line
decreases-loop-line l = length l.rest
