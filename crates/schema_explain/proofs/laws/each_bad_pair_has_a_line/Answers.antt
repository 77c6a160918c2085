-- What is bad of a pair that is reached is a line, its own or that of a part.
use Rattle.schema_explain.proofs.BadLines.{each_bad_has_a_line}
use Rattle.schema_explain.proofs.laws.each_bad_pair_has_a_line.Goals as goal

pub returns : goal.returns
returns c = each_bad_has_a_line _ _ c.is_well_formed.ensures c.is_well_formed-2.ensures c.partners_by_rule.ensures.apart
