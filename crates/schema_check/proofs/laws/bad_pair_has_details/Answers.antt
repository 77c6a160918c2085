-- The law is the lemma `bad_pairs_have_details`.
use Rattle.schema_check.proofs.Detailed.{bad_pairs_have_details}
use Rattle.schema_check.proofs.laws.bad_pair_has_details.Goals as goal

pub returns : goal.returns
returns c = bad_pairs_have_details
