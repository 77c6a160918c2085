-- The law is the lemmas `some_are_found` and `one_is_found`.
use Rattle.schema_check.proofs.OneCheck.{one_is_found, some_are_found}
use Rattle.schema_check.proofs.laws.pair_has_one_check.Goals as goal

pub returns-clause-some : goal.returns-clause-some
returns-clause-some c = some_are_found

pub returns-clause-one : goal.returns-clause-one
returns-clause-one c = one_is_found
