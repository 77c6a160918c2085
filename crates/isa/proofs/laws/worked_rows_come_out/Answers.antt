use Rattle.isa.proofs.Worked.{boolean_bad, long_taken, text_begun}
use Rattle.isa.proofs.laws.worked_rows_come_out.Goals as goal

pub returns-clause-long : goal.returns-clause-long
returns-clause-long c = long_taken

pub returns-clause-text : goal.returns-clause-text
returns-clause-text c = text_begun

pub returns-clause-boolean : goal.returns-clause-boolean
returns-clause-boolean c = boolean_bad
