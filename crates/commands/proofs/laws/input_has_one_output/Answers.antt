use Rattle.commands.proofs.OneOutput.{one_output, some_output}
use Rattle.commands.proofs.Stopping.{one_stop, some_stop}
use Rattle.commands.proofs.laws.input_has_one_output.Goals as goal

pub returns-clause-state : goal.returns-clause-state
returns-clause-state c = λ P payload steps.
    let runs = c.runs_alone_are_counted_and_stay.ensures in
    let s = some_stop P payload c.row_or_end_is_there.ensures runs.counted runs.go_on steps in
    (s.0, s.1, λ t stops. one_stop P payload runs.ends steps t s.0 stops s.1)

pub returns-clause-some : goal.returns-clause-some
returns-clause-some c =
    let runs = c.runs_alone_are_counted_and_stay.ensures in
    some_output c.payload_has_one_outcome.ensures.some c.row_or_end_is_there.ensures runs.counted runs.go_on

pub returns-clause-one : goal.returns-clause-one
returns-clause-one c = one_output c.payload_has_one_outcome.ensures.one c.runs_alone_are_counted_and_stay.ensures.ends
