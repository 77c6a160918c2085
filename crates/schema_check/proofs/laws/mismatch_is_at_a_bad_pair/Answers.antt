-- The law is the lemma `mismatches_have_bad_pairs`.
use Rattle.schema_check.proofs.Mismatched.{mismatches_have_bad_pairs}
use Rattle.schema_check.proofs.laws.mismatch_is_at_a_bad_pair.Goals as goal

pub returns : goal.returns
returns c = mismatches_have_bad_pairs
