use Rattle.isa.proofs.RowLaws.{row_there}
use Rattle.isa.proofs.laws.row_or_end_is_there.Goals as goal

pub returns : goal.returns
returns c P input s = row_there P input s
