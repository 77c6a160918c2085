-- Members are nodes of their schema.
use Rattle.resolver.proofs.Within.{members_within}
use Rattle.schema_check.proofs.steps.step_of.Goals as goal

pub returns-in_ok-next-in-Union-clause-within : goal.returns-in_ok-next-in-Union-clause-within
returns-in_ok-next-in-Union-clause-within c =
    let all = (rw c.in-Union.is at c.kind.ensures.well_formed).0 in
    rw (c.in_ok-next-in-Union.ensures, c.deref.ensures.value) (members_within _ _ _ _ c.in-Union.members.items all c.requires.reader)
