-- By induction on what is declared.
use Rattle.avro_schema_paths.proofs.OnePath.{one_path, only_nodes}
use Rattle.avro_schema_paths.proofs.laws.each_node_has_one_path.Goals as goal

pub returns : goal.returns
returns c = record { one = one_path; nodes = only_nodes }
