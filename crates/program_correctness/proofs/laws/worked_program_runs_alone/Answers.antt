use Rattle.program_correctness.proofs.Worked.{cut, ends, no_more, waits}
use Rattle.program_correctness.proofs.laws.worked_program_runs_alone.Goals as goal

pub returns-clause-ends : goal.returns-clause-ends
returns-clause-ends c = ends

pub returns-clause-no_more : goal.returns-clause-no_more
returns-clause-no_more c = no_more

pub returns-clause-waits : goal.returns-clause-waits
returns-clause-waits c = waits

pub returns-clause-cut : goal.returns-clause-cut
returns-clause-cut c = cut
