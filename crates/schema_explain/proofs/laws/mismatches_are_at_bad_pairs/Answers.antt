-- What is due is reached, so that a mismatch is of a pair that is reached and bad.
use Rattle.schema_explain.proofs.Sound.{at_bad_pairs}
use Rattle.schema_explain.proofs.laws.mismatches_are_at_bad_pairs.Goals as goal

pub returns : goal.returns
returns c = at_bad_pairs _ _ c.is_well_formed.ensures
