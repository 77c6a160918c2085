use Rattle.std.proofs.Common.{◌≡◌, take}
use Rattle.spec_machine.specs.ListingWords.{value_of}
use Rattle.assembler.proofs.words.value_of.Given as goal

abbrev pub invariant-loop-digit : goal.invariant-loop-digit
invariant-loop-digit l = l.value ≡ value_of (take l.digit-index l.digits)
