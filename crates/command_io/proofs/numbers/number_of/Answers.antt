use Rattle.std.proofs.Common.{◌≡◌, ◌^◌, true, false}
use Rattle.spec_machine.specs.ListingWords.{is_numeral}
use Rattle.command_io.proofs.Numerals.{no_number, parsed}
use Rattle.command_io.proofs.numbers.number_of.Goals as goal

pub returns-then-is_numeral : goal.returns-then-is_numeral
returns-then-is_numeral c =
    let is : is_numeral c.args.word.now ≡ true = cc in
    rw c.ok.ensures.value (parsed 32 c.args.word.now c.parse.result c.parse.ensures.value.0 is)

pub returns-else-is_numeral : goal.returns-else-is_numeral
returns-else-is_numeral c =
    let is : is_numeral c.args.word.now ≡ false = cc in
    no_number (2 ^ 32) c.args.word.now is
