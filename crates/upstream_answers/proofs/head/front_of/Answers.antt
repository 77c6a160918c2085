-- Neither a head nor room for one.
use Rattle.upstream_answers.proofs.Heads.{never_in_room}
use Rattle.upstream_answers.proofs.head.front_of.Goals as goal

pub returns-in_default-clause-front : goal.returns-in_default-clause-front
returns-in_default-clause-front c =
    never_in_room _ (rw c.in-Ok-Partial.field-0-is at c.in-Ok-Partial.ensures.partial) c.if-received-lt-MOST_HEAD.false
