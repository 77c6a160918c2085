-- What was received is what was taken.
use Rattle.std.proofs.Common.{◌∙◌, arith, rules}
use Rattle.upstream_answers.proofs.Received.{had_none, taken_more}
use Rattle.upstream_answers.proofs.receiving.receive.Goals as goal

pub returns-then-ends_with_reader-clause-bytes : goal.returns-then-ends_with_reader-clause-bytes
returns-then-ends_with_reader-clause-bytes g c =
    let r = c.in_ok-read_more.ensures.received in
    taken_more _ _ _ _ _ _ c.reads.invariant.taken r.consumes r.follows

pub returns-then-had-eq0-clause-closed : goal.returns-then-had-eq0-clause-closed
returns-then-had-eq0-clause-closed g c = λ _.
    let r = c.in_ok-read_more.ensures.received in
    let none = c.if-branch-eq0.true in
    had_none _ _ _ _ _ c.reads.invariant.taken r.consumes (search (rules, arith)) (r.long ∙ none) (r.at_end none)

pub returns-then-eq-clause-bytes : goal.returns-then-eq-clause-bytes
returns-then-eq-clause-bytes g c =
    let r = c.in_ok-read_more.ensures.received in
    taken_more _ _ _ _ _ _ c.reads.invariant.taken r.consumes r.follows
