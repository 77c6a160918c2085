-- The law is the lemma `bad_pairs_have_kinds`.
use Rattle.schema_check.proofs.BadKinds.{bad_pairs_have_kinds}
use Rattle.schema_check.proofs.laws.bad_pair_has_a_kind.Goals as goal

pub returns : goal.returns
returns c = bad_pairs_have_kinds
