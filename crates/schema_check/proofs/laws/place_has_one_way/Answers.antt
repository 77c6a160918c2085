-- The law is the lemmas `some_way_is_by_parents` and `one_way_is_by_parents`.
use Rattle.schema_check.proofs.OneWay.{one_way_is_by_parents, some_way_is_by_parents}
use Rattle.schema_check.proofs.laws.place_has_one_way.Goals as goal

pub returns-clause-some : goal.returns-clause-some
returns-clause-some c = some_way_is_by_parents

pub returns-clause-one : goal.returns-clause-one
returns-clause-one c = one_way_is_by_parents
