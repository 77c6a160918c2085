-- None of the frames so far has slots.
use Rattle.std.proofs.Common.{◌≡◌, drop, reverse}
use Rattle.machine_store.specs.Viewing.{end_over}
use Rattle.machine_store.proofs.views.end_over.Given as goal

abbrev pub invariant-loop-frame : goal.invariant-loop-frame
invariant-loop-frame l = end_over (reverse (drop l.frame-index l.newer)) l.end ≡ end_over (reverse l.newer) l.end
