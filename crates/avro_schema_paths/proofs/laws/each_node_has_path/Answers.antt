-- By induction on what is declared.
use Rattle.avro_schema_paths.proofs.HavePaths.{each_has_path}
use Rattle.avro_schema_paths.proofs.laws.each_node_has_path.Goals as goal

pub returns : goal.returns
returns c = each_has_path
