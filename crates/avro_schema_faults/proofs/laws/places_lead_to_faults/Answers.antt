use Rattle.avro_schema_faults.proofs.Leading.{leads}
use Rattle.avro_schema_faults.proofs.laws.places_lead_to_faults.Goals as goal

pub returns : goal.returns
returns c = leads
