-- By induction on where a node is declared.
use Rattle.avro_schema_paths.proofs.Leading.{paths_lead_there}
use Rattle.avro_schema_paths.proofs.laws.paths_lead_there.Goals as goal

pub returns : goal.returns
returns c = paths_lead_there
