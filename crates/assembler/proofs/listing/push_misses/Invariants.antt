use Rattle.std.proofs.Common.{◌≡◌, ◌++◌, take}
use Rattle.std.specs.Prelude.{string_bytes}
use Rattle.spec_machine.specs.Listing.{miss_line, lines}
use Rattle.assembler.proofs.listing.push_misses.Given as goal

abbrev pub invariant-loop-number : goal.invariant-loop-number
invariant-loop-number l = string_bytes l.output ≡ string_bytes l.fn.output ++ lines miss_line (take l.number l.misses)
