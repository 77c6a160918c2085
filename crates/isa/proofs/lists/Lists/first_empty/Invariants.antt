use Rattle.std.proofs.Common.{◌≡◌, drop}
use Rattle.spec_machine.specs.Judging.{first_empty, first_empty_from}
use Rattle.isa.proofs.lists.Lists.first_empty.Given as goal

abbrev pub invariant-loop-number : goal.invariant-loop-number
invariant-loop-number g l = first_empty l.self ≡ first_empty_from l.number (drop l.number l.self)
