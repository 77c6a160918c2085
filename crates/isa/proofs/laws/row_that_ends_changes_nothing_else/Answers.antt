use Rattle.isa.proofs.RowLaws.{only_the_end}
use Rattle.isa.proofs.laws.row_that_ends_changes_nothing_else.Goals as goal

pub returns : goal.returns
returns c P input ended s new = only_the_end P input ended s new
