use Rattle.std.proofs.Common.{◌≡◌, ◌++◌, take}
use Rattle.std.specs.List.{flat_map}
use Rattle.std.specs.Prelude.{string_bytes}
use Rattle.spec_machine.specs.Listing.{entry}
use Rattle.assembler.proofs.listing.push_entries.Given as goal

abbrev pub invariant-loop-entry : goal.invariant-loop-entry
invariant-loop-entry l = string_bytes l.output ≡ string_bytes l.fn.output ++ flat_map entry (take l.entry-index l.map)
