use Rattle.std.proofs.Common.{◌∙◌, sym}
use Rattle.line_journal.specs.Lines.{block, line_and_gate}
use Rattle.std.specs.List.{flat_map}
use Rattle.line_journal.specs.declared.layout.TheConstants.{OPEN}
use Rattle.line_journal.proofs.Steps.{left_closing}
use Rattle.line_journal.proofs.Crash.{are-before, staged_open}
use Rattle.line_journal.proofs.journal.Journal.close_gate.Goals as goal

pub returns-in_err-write_gate-clause-crash : goal.returns-in_err-write_gate-clause-crash
returns-in_err-write_gate-clause-crash g c lines line ends file may =
    let are = are-before lines line ends.rests.are_lines in
    left_closing lines c.args.at ends.gate line are.0 (are.1, ends.few) _ _ _ ends.rests.file ends.rests.durable c.write_gate.ensures.crash file may

pub returns-clause-crash : goal.returns-clause-crash
returns-clause-crash g c lines line ends file may =
    let are = are-before lines line ends.rests.are_lines in
    left_closing lines c.args.at ends.gate line are.0 (are.1, ends.few) _ _ _ ends.rests.file ends.rests.durable c.write_gate.ensures.crash file may

pub returns-clause-closed : goal.returns-clause-closed
returns-clause-closed g c lines line ends =
    let are = are-before lines line ends.rests.are_lines in
    record {
      file = c.in_ok-write_gate.ensures.written (flat_map block lines) (line_and_gate line) OPEN OPEN ends.gate (ends.rests.file ∙ sym (staged_open lines line));
      gate = ends.gate;
      are_lines = are.0;
      is_line = (are.1, ends.few);
      durable = c.in_ok-write_gate.ensures.durable;
    }
