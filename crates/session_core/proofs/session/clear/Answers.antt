use Rattle.std.proofs.Common.{rules}
use Rattle.std.proofs.lemmas.Fn.{filter_same}
use Rattle.session_core.proofs.session.clear.Goals as goal

pub returns-clause-cleared : goal.returns-clause-cleared
returns-clause-cleared c = filter_same _ _ _ (λ x b f' k. search rules) _ _ c.retain.ensures.filtered
