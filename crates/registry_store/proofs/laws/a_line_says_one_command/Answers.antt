use Rattle.registry_store.proofs.Bodies.{line_injective}
use Rattle.registry_store.proofs.laws.a_line_says_one_command.Goals as goal

pub returns : goal.returns
returns c = line_injective
