use Rattle.std.proofs.Common.{◌≡◌, ◌++◌, take}
use Rattle.std.specs.List.{flat_map}
use Rattle.std.specs.Prelude.{string_bytes}
use Rattle.spec_machine.specs.Listing.{number}
use Rattle.assembler.proofs.listing.push_addresses.Given as goal

abbrev pub invariant-loop-address : goal.invariant-loop-address
invariant-loop-address l = string_bytes l.output ≡ string_bytes l.fn.output ++ flat_map number (take l.address-index l.addresses)
