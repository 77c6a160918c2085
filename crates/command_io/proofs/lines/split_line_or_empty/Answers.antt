-- No line is left after the last.
use Rattle.command_io.proofs.Split.{lines_none}
use Rattle.command_io.proofs.lines.split_line_or_empty.Goals as goal

pub returns-in-None-clause-rest : goal.returns-in-None-clause-rest
returns-in-None-clause-rest c = rw c.in-None.ensures.lines lines_none
