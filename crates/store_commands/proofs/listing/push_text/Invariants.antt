use Rattle.std.proofs.Common.{◌≡◌, ◌++◌, map, take}
use Rattle.store_commands.specs.Listing.{one_line_byte}
use Rattle.store_commands.proofs.listing.push_text.Given as goal

abbrev pub invariant-loop-byte : goal.invariant-loop-byte
invariant-loop-byte l = l.output.items ≡ l.initial.output.items ++ map one_line_byte (take l.byte-index l.text)
