use Rattle.registry_store.proofs.Bodies.{line_is_one}
use Rattle.registry_store.proofs.laws.a_command_is_one_line.Goals as goal

pub returns : goal.returns
returns c = line_is_one
