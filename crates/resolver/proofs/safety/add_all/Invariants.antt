-- The pairs so far are added.
use Rattle.std.proofs.Common.{take}
use Rattle.resolver.specs.Pairs.{AddsAll}
use Rattle.resolver.proofs.safety.add_all.Given as goal

abbrev pub invariant-loop-pair : goal.invariant-loop-pair
invariant-loop-pair l = AddsAll (take l.pair-index l.more) l.fn.pairs l.pairs
