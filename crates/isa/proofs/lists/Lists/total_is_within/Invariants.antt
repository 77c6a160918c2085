use Rattle.std.proofs.Common.{◌≡◌, ◌+◌, drop}
use Rattle.spec_machine.specs.Lengths.{total_length}
use Rattle.isa.proofs.lists.Lists.total_is_within.Given as goal

abbrev pub invariant-loop-number : goal.invariant-loop-number
invariant-loop-number g l = total_length l.self + l.left ≡ total_length (drop l.number l.self) + l.most
