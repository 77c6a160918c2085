-- What is answered so far goes before the answers of the lines that are left, and the pair stays.
use Rattle.std.proofs.Common.{◌≡◌, string_bytes, length}
use Rattle.spec_lines.specs.Answer.{IsAnswer}
use Rattle.commands.proofs.Answers.{Continues}
use Rattle.spec_lines.specs.Lines.{lines}
use Rattle.commands.proofs.transcode.answers.Given as goal

abbrev pub invariant-loop-line : goal.invariant-loop-line
invariant-loop-line l = record {
  kept : l.transcoder ≡ l.fn.transcoder;
  so_far : Continues (IsAnswer l.fn.transcoder.writer l.fn.transcoder.reader) (lines l.payloads) (lines l.rest) (string_bytes l.output);
}

abbrev pub decreases-loop-line : goal.decreases-loop-line
decreases-loop-line l = length l.rest
