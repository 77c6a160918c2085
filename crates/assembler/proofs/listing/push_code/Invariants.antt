use Rattle.std.proofs.Common.{◌≡◌, ◌++◌, take}
use Rattle.std.specs.Prelude.{string_bytes}
use Rattle.spec_machine.specs.Listing.{instr_line, lines}
use Rattle.assembler.proofs.listing.push_code.Given as goal

abbrev pub invariant-loop-address : goal.invariant-loop-address
invariant-loop-address l = string_bytes l.output ≡ string_bytes l.fn.output ++ lines instr_line (take l.address l.code)
