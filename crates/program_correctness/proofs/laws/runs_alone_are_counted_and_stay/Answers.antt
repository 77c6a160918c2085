use Rattle.program_correctness.proofs.Runs.{ends_are_last, rows_are_counted, runs_go_on, runs_stay, runs_stay_inside}
use Rattle.program_correctness.proofs.laws.runs_alone_are_counted_and_stay.Goals as goal

pub returns-clause-counted : goal.returns-clause-counted
returns-clause-counted c = rows_are_counted

pub returns-clause-go_on : goal.returns-clause-go_on
returns-clause-go_on c = runs_go_on

pub returns-clause-ends : goal.returns-clause-ends
returns-clause-ends c = ends_are_last

pub returns-clause-inside : goal.returns-clause-inside
returns-clause-inside c = runs_stay_inside c.row_stays_on_longer_input.ensures

pub returns-clause-stay : goal.returns-clause-stay
returns-clause-stay c = runs_stay c.row_stays_on_longer_input.ensures
