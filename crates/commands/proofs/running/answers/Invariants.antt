-- What is answered so far goes before the answers of the lines that are left.
use Rattle.std.proofs.Common.{string_bytes, length}
use Rattle.commands.proofs.Answers.{Continues}
use Rattle.spec_lines.specs.Lines.{lines}
use Rattle.spec_lines.specs.Running.{IsRunLine}
use Rattle.commands.proofs.running.answers.Given as goal

abbrev pub invariant-loop-line : goal.invariant-loop-line
invariant-loop-line l = Continues (IsRunLine l.program l.steps) (lines l.payloads) (lines l.rest) (string_bytes l.output)

abbrev pub decreases-loop-line : goal.decreases-loop-line
decreases-loop-line l = length l.rest
