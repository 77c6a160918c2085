use Rattle.std.proofs.Common.{sym}
use Rattle.spec_machine.specs.ListingParts.{each_in}
use Rattle.spec_machine.specs.ListingWords.{later}
use Rattle.assembler.proofs.Each.{word_fails, word_read, words_read}
use Rattle.assembler.proofs.things.list_of.Goals as goal

pub returns-in_default-of_word : goal.returns-in_default-of_word
returns-in_default-of_word g c =
    sym (word_fails g.T.Word.said c.loop-word.list.items (later c.loop-word.rest.now) (each_in g.T.Word.said (later c.args.words.now)) c.loop-word.invariant
    c.in-Some.word.now (later c.in-Some.after.now) c.in-Some.ensures.0 (sym c.in_default-of_word.ensures))

pub loop-word-preserved : goal.loop-word-preserved
loop-word-preserved g c =
    rw c.in_ok-push.ensures.items
    (word_read g.T.Word.said c.loop-word.list.items (later c.loop-word.rest.now) (each_in g.T.Word.said (later c.args.words.now)) c.loop-word.invariant
    c.in-Some.word.now (later c.in-Some.after.now) c.in-Some-of_word.thing c.in-Some.ensures.0 (sym c.in-Some-of_word.ensures))

pub returns : goal.returns
returns g c =
    sym (words_read g.T.Word.said c.loop-word.list.items (later c.loop-word.rest.now) (each_in g.T.Word.said (later c.args.words.now)) c.loop-word.invariant c.in_default.ensures)
