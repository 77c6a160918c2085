use Rattle.resolver.proofs.OneOutcome.{some_outcome, one_outcome}
use Rattle.resolver.proofs.laws.payload_has_one_outcome.Goals as goal

pub returns-clause-some : goal.returns-clause-some
returns-clause-some c = some_outcome c.payload_is_spelled_or_faulty.ensures.either

pub returns-clause-one : goal.returns-clause-one
returns-clause-one c = one_outcome c.payload_is_spelled_or_faulty.ensures.one_datum c.payload_is_spelled_or_faulty.ensures.one_fault c.payload_is_spelled_or_faulty.ensures.never_both
