use Rattle.program_correctness.proofs.Simulated.{each_end, early_end, simulated}
use Rattle.program_correctness.proofs.laws.program_ends_with_the_outcome.Goals as goal

pub returns-clause-simulated : goal.returns-clause-simulated
returns-clause-simulated c = simulated _ _ c.is_well_formed.ensures c.program_is_linked.ensures c.program_is_in_range.ensures c.rows_stay_within_bounds.ensures.begins c.rows_stay_within_bounds.ensures.stays

pub returns-clause-each_end : goal.returns-clause-each_end
returns-clause-each_end c = each_end _ _ c.is_well_formed.ensures c.program_is_linked.ensures

pub returns-clause-early_end : goal.returns-clause-early_end
returns-clause-early_end c = early_end _ _ c.is_well_formed.ensures c.program_is_linked.ensures c.row_stays_on_longer_input.ensures
