use Rattle.std.proofs.Common.{refl}
use Rattle.avro_datum.proofs.OnePayload as payload
use Rattle.avro_datum.proofs.laws.payload_is_spelled_or_faulty.Goals as goal

pub returns-clause-either : goal.returns-clause-either
returns-clause-either c = λ nodes p. payload.either nodes p _ refl

pub returns-clause-one_datum : goal.returns-clause-one_datum
returns-clause-one_datum c = payload.one_datum

pub returns-clause-one_fault : goal.returns-clause-one_fault
returns-clause-one_fault c = payload.one_fault

pub returns-clause-never_both : goal.returns-clause-never_both
returns-clause-never_both c = payload.never_both
