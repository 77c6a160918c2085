use Rattle.std.proofs.Common.{◌++◌, reverse}
use Rattle.machine_store.specs.Ropes.{rope_at}
use Rattle.machine_store.specs.Segments.{bytes_of}
use Rattle.machine_store.proofs.Writing.{IsWriting, turns}
use Rattle.machine_store.proofs.ropes.Ropes.write.Given as goal

abbrev pub invariant-loop-at : goal.invariant-loop-at
invariant-loop-at l =
    IsWriting l.arena l.self-inside.joints.items (l.fn.out.items ++ bytes_of l.arena (rope_at l.fn.self l.fn.rope)) l.out.items l.at (reverse l.pending.items)

abbrev pub decreases-loop-at : goal.decreases-loop-at
decreases-loop-at l = turns l.self-inside.joints.items l.at (reverse l.pending.items)
