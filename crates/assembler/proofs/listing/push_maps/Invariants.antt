use Rattle.std.proofs.Common.{◌≡◌, ◌++◌, take}
use Rattle.std.specs.Prelude.{string_bytes}
use Rattle.spec_machine.specs.Listing.{map_line, lines}
use Rattle.assembler.proofs.listing.push_maps.Given as goal

abbrev pub invariant-loop-number : goal.invariant-loop-number
invariant-loop-number l = string_bytes l.output ≡ string_bytes l.fn.output ++ lines map_line (take l.number l.maps)
