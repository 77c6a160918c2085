use Rattle.resolver.proofs.Apart.{partners_apart}
use Rattle.resolver.proofs.Partnering.{names_go_first, others_go_by_alias}
use Rattle.resolver.proofs.Passed.{earlier_aliases_were_taken}
use Rattle.resolver.proofs.Taken.{aliases_are_taken}
use Rattle.resolver.proofs.matching_laws.partners_by_rule.Goals as goal

pub returns-clause-name : goal.returns-clause-name
returns-clause-name c = names_go_first

pub returns-clause-alias : goal.returns-clause-alias
returns-clause-alias c = others_go_by_alias

pub returns-clause-apart : goal.returns-clause-apart
returns-clause-apart c = partners_apart

pub returns-clause-taken : goal.returns-clause-taken
returns-clause-taken c = aliases_are_taken

pub returns-clause-earlier : goal.returns-clause-earlier
returns-clause-earlier c = earlier_aliases_were_taken
