use Rattle.std.proofs.Common.{◌≡◌, drop}
use Rattle.spec_machine.specs.Judging.{are_within}
use Rattle.isa.proofs.lists.Lists.are_within.Given as goal

abbrev pub invariant-loop-number : goal.invariant-loop-number
invariant-loop-number g l = are_within l.most l.self ≡ are_within l.most (drop l.number l.self)
