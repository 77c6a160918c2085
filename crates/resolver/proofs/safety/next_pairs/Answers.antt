-- Members are nodes of their schema.
use Rattle.resolver.proofs.Within.{members_within}
use Rattle.resolver.proofs.safety.next_pairs.Goals as goal

pub returns-in_ok-member_pairs-in-Union-clause-within : goal.returns-in_ok-member_pairs-in-Union-clause-within
returns-in_ok-member_pairs-in-Union-clause-within c =
    let all = (rw c.in-Union.is at c.kind.ensures.well_formed).0 in
    rw (c.in_ok-member_pairs-in-Union.ensures, c.deref.ensures.value) (members_within _ _ _ _ c.in-Union.members.items all c.requires.reader)
