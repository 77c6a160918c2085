use Rattle.isa.proofs.Longer.{row_longer}
use Rattle.isa.proofs.laws.row_stays_on_longer_input.Goals as goal

pub returns : goal.returns
returns c P input more ended s new = row_longer P input more ended s new
