use Rattle.machine.proofs.Longer.{on-longer}
use Rattle.machine.proofs.laws.machines_go_on_with_more_input.Goals as goal

pub returns-clause-stays : goal.returns-clause-stays
returns-clause-stays c = on-longer
