-- The law is the lemma `program_is_in_range`.
use Rattle.program_definition.proofs.InRange.{program_is_in_range}
use Rattle.program_definition.proofs.laws.program_is_in_range.Goals as goal

pub returns : goal.returns
returns c = program_is_in_range _ _ c.is_well_formed.ensures c.is_well_formed-2.ensures
