-- By recursion on the path.
use Rattle.avro_schema_paths.proofs.Pointing.{pointers_lead}
use Rattle.avro_schema_paths.proofs.laws.pointers_lead_there.Goals as goal

pub returns : goal.returns
returns c = pointers_lead
