use Rattle.avro_schema.proofs.SchemaText.{faults_told, nodes_declared}
use Rattle.avro_schema.proofs.laws.parsed_schema_is_declared.Goals as goal

pub returns : goal.returns
returns c = record { nodes = nodes_declared; faults = faults_told }
