use Rattle.isa.proofs.RowLaws.{stays_bounded, start_bounded}
use Rattle.isa.proofs.laws.rows_stay_within_bounds.Goals as goal

pub returns-clause-begins : goal.returns-clause-begins
returns-clause-begins c = start_bounded

pub returns-clause-stays : goal.returns-clause-stays
returns-clause-stays c P input ended s new = stays_bounded P input ended s new
