use Rattle.avro_schema_faults.proofs.Failing.{place-fails}
use Rattle.avro_schema_faults.proofs.One.{one-place}
use Rattle.avro_schema_faults.proofs.laws.each_fault_has_one_place.Goals as goal

pub returns-clause-fails : goal.returns-clause-fails
returns-clause-fails c = place-fails

pub returns-clause-one : goal.returns-clause-one
returns-clause-one c = one-place
