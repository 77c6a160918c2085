-- The law is the lemma `whole`.
use Rattle.resolver.proofs.Whole.{whole}
use Rattle.resolver.proofs.laws.resolution_is_whole.Goals as goal

pub returns : goal.returns
returns c = whole _ _ c.is_well_formed.ensures c.defaults_conform.ensures
