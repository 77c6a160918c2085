use Rattle.std.proofs.Common.{◌≡◌, ◌++◌, take}
use Rattle.std.specs.Prelude.{string_bytes}
use Rattle.spec_machine.specs.Listing.{jumps_line, lines}
use Rattle.assembler.proofs.listing.push_tables.Given as goal

abbrev pub invariant-loop-number : goal.invariant-loop-number
invariant-loop-number l = string_bytes l.output ≡ string_bytes l.fn.output ++ lines jumps_line (take l.number l.tables)
