-- What is answered so far goes before the answers of the lines that are left.
use Rattle.std.proofs.Common.{string_bytes, length}
use Rattle.spec_lines.specs.Lines.{lines}
use Rattle.spec_sessions.specs.World.{no_world}
use Rattle.spec_lines.specs.Replaying.{AnswersLine}
use Rattle.commands.proofs.Folding.{Continues}
use Rattle.commands.proofs.replaying.answers.Given as goal

abbrev pub invariant-loop-line : goal.invariant-loop-line
invariant-loop-line l = Continues AnswersLine (lines l.input) (lines l.rest) (string_bytes l.output) no_world l.world

abbrev pub decreases-loop-line : goal.decreases-loop-line
decreases-loop-line l = length l.rest
