use Rattle.std.proofs.Common.{◌∙◌, ap, arith, ℕ, Some}
use Rattle.line_journal.specs.Lines.{block, line_and_gate}
use Rattle.std.specs.List.{flat_map}
use Rattle.line_journal.specs.declared.layout.TheConstants.{CLOSED}
use Rattle.line_journal.proofs.Steps.{left_opening}
use Rattle.line_journal.proofs.Crash.{are-more, length-block_more, staged_open}
use Rattle.line_journal.proofs.LastLine.{added-last}
use Rattle.line_journal.proofs.journal.Journal.open_gate.Goals as goal

pub returns-in_err-write_gate-clause-crash : goal.returns-in_err-write_gate-clause-crash
returns-in_err-write_gate-clause-crash g c lines line staged file may =
    left_opening lines c.args.self.now.gate staged.gate line staged.are_lines staged.is_line _ _ _ staged.file staged.durable c.write_gate.ensures.crash file may

pub returns-clause-crash : goal.returns-clause-crash
returns-clause-crash g c lines line staged file may =
    left_opening lines c.args.self.now.gate staged.gate line staged.are_lines staged.is_line _ _ _ staged.file staged.durable c.write_gate.ensures.crash file may

pub returns-clause-counted : goal.returns-clause-counted
returns-clause-counted g c lines line staged next = record {
  file = c.in_ok-write_gate.ensures.written (flat_map block lines) (line_and_gate line) CLOSED CLOSED staged.gate staged.file ∙ staged_open lines line;
  gate = omega (arith, next, staged.gate, length-block_more lines line);
  last = added-last _ c.args.self.now.gate lines line (ap (λ (n : ℕ). Some n) c.write_gate.ensures.stays.0) staged.gate staged.is_line.1;
  are_lines = are-more lines line staged.are_lines staged.is_line.0;
  durable = c.in_ok-write_gate.ensures.durable;
}
