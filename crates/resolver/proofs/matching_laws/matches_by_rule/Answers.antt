use Rattle.resolver.proofs.ByRule.{matches_by_rule}
use Rattle.resolver.proofs.Holding.{matches_where_it_holds}
use Rattle.resolver.proofs.matching_laws.matches_by_rule.Goals as goal

pub returns-clause-rule : goal.returns-clause-rule
returns-clause-rule c = matches_by_rule

pub returns-clause-relation : goal.returns-clause-relation
returns-clause-relation c = matches_where_it_holds
