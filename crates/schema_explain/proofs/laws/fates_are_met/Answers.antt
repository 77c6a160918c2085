-- Each datum is resolved by its place, and so is its fate.
use Rattle.schema_explain.proofs.Fated.{fates_are_met}
use Rattle.schema_explain.proofs.laws.fates_are_met.Goals as goal

pub returns : goal.returns
returns c = fates_are_met _ _ c.is_well_formed.ensures
