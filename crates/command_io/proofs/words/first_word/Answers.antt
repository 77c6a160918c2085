use Rattle.std.proofs.Common.{◌≡◌}
use Rattle.spec_machine.specs.ListingWords.{words}
use Rattle.command_io.proofs.Parts.{no_words, text_words}
use Rattle.command_io.proofs.words.first_word.Goals as goal

pub returns-in-Ok : goal.returns-in-Ok
returns-in-Ok c =
    let text = c.in-Ok.ensures.cases in
    let split : words c.args.line.now ≡ _ = rw text.0 at c.split_word.ensures in
    rw (text_words c.args.line.now text.1) split

pub returns-in-Err : goal.returns-in-Err
returns-in-Err c = no_words c.args.line.now c.in-Err.ensures.cases.0
