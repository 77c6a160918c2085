use Rattle.avro_schema_faults.proofs.Leading.{leads-to-record}
use Rattle.avro_schema_faults.proofs.laws.record_paths_lead_to_records.Goals as goal

pub returns : goal.returns
returns c = leads-to-record
