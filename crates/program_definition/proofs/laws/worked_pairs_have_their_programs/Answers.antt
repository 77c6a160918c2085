use Rattle.program_definition.proofs.Worked.{of_both, of_long_list, of_pair, of_renamed}
use Rattle.program_definition.proofs.laws.worked_pairs_have_their_programs.Goals as goal

pub returns-clause-list : goal.returns-clause-list
returns-clause-list c = of_long_list

pub returns-clause-same : goal.returns-clause-same
returns-clause-same c = of_pair

pub returns-clause-renamed : goal.returns-clause-renamed
returns-clause-renamed c = of_renamed

pub returns-clause-other : goal.returns-clause-other
returns-clause-other c = of_both
