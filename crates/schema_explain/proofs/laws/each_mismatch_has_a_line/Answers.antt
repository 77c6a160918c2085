-- A datum meets a mismatch at a pair that is reached, and such a pair has its lines.
use Rattle.schema_explain.proofs.Mismatched.{each_mismatch_has_a_line}
use Rattle.schema_explain.proofs.laws.each_mismatch_has_a_line.Goals as goal

pub returns : goal.returns
returns c = each_mismatch_has_a_line _ _ c.is_well_formed.ensures c.is_well_formed-2.ensures c.partners_by_rule.ensures.apart
