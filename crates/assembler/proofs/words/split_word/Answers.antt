use Rattle.std.proofs.Common.{arith, length}
use Rattle.std.proofs.lemmas.List.{take_all}
use Rattle.assembler.proofs.Parts.{word_split, word_whole}
use Rattle.assembler.proofs.words.split_word.Goals as goal

pub returns-in-Some-clause-words : goal.returns-in-Some-clause-words
returns-in-Some-clause-words c =
    let first = c.in-Some.ensures.0 in
    rw (c.split_at.ensures.front, c.split_at.ensures.back)
    (word_split c.args.line.now c.in-Some.end first.high (λ j l e. first.before j (omega arith) l e) c.in-Some.ensures.1)

pub returns-in-None-clause-words : goal.returns-in-None-clause-words
returns-in-None-clause-words c =
    rw (c.split_at-in-None.ensures.front, c.split_at-in-None.ensures.back, take_all (length c.args.line.now) c.args.line.now (omega arith))
    (word_whole c.args.line.now (λ j l e. c.in-None.ensures j (omega arith) l e))
