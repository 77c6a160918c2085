use Rattle.program_definition.proofs.Finding.{sections_are_found}
use Rattle.program_definition.proofs.Limits.{none_by_limits_alone}
use Rattle.program_definition.proofs.Whole.{no_statement_is_lost}
use Rattle.program_definition.proofs.laws.no_program_only_past_a_limit.Goals as goal

pub returns-clause-found : goal.returns-clause-found
returns-clause-found c = sections_are_found _ _ c.is_well_formed.ensures c.is_well_formed-2.ensures

pub returns-clause-statements : goal.returns-clause-statements
returns-clause-statements c = no_statement_is_lost _ _ c.is_well_formed.ensures c.is_well_formed-2.ensures

pub returns-clause-limit : goal.returns-clause-limit
returns-clause-limit c = none_by_limits_alone _ _ c.is_well_formed.ensures c.is_well_formed-2.ensures
