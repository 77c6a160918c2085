-- The law is the lemma `program_is_linked`.
use Rattle.program_definition.proofs.Linked.{program_is_linked}
use Rattle.program_definition.proofs.laws.program_is_linked.Goals as goal

pub returns : goal.returns
returns c = program_is_linked _ _ c.is_well_formed.ensures
