use Rattle.std.proofs.Common.{rules}
use Rattle.spec_lines.specs.Words.{word_and_text}
use Rattle.command_io.proofs.Parts.{text_left}
use Rattle.command_io.proofs.words.word_and_text.Goals as goal

pub returns-in_err-text : goal.returns-in_err-text
unfolding word_and_text
returns-in_err-text c = search (rules, text_left c.in_ok-word.left)

pub returns : goal.returns
unfolding word_and_text
returns c = search (rules, text_left c.in_ok-word.left)
