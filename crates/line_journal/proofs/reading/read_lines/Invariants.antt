use Rattle.std.proofs.Common.{◌-◌, length}
use Rattle.line_journal.specs.Lines.{lines_of}
use Rattle.line_journal.proofs.Blocks.{Reads}
use Rattle.line_journal.proofs.reading.read_lines.Given as goal

abbrev pub invariant-loop-end : goal.invariant-loop-end
invariant-loop-end l = Reads l.bytes l.at (lines_of l.lines.items)

abbrev pub decreases-loop-end : goal.decreases-loop-end
decreases-loop-end l = length l.bytes - l.at
