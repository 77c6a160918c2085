use Rattle.std.proofs.Common.{◌≡◌, drop}
use Rattle.spec_machine.specs.Judging.{first_out_from, first_out_in}
use Rattle.isa.proofs.range.first_out_in.Given as goal

abbrev pub invariant-loop-number : goal.invariant-loop-number
invariant-loop-number g l = first_out_in (g.T.Ranged.in_range l.sizes) l.lists ≡ first_out_from (g.T.Ranged.in_range l.sizes) l.number (drop l.number l.lists)
