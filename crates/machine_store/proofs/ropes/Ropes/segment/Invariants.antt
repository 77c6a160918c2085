use Rattle.machine_store.proofs.Roping.{IsSought}
use Rattle.machine_store.proofs.ropes.Ropes.segment.Given as goal

abbrev pub invariant-loop-at : goal.invariant-loop-at
invariant-loop-at l = IsSought l.self l.rope l.number l.at l.left

abbrev pub decreases-loop-at : goal.decreases-loop-at
decreases-loop-at l = l.at
