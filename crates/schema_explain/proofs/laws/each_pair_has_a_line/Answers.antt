-- Each pair that is reached is due, and what is due has a line.
use Rattle.schema_explain.proofs.Whole.{each_has_a_line}
use Rattle.schema_explain.proofs.laws.each_pair_has_a_line.Goals as goal

pub returns : goal.returns
returns c = each_has_a_line _ _ c.is_well_formed.ensures c.is_well_formed-2.ensures c.partners_by_rule.ensures.apart
