use Rattle.std.proofs.Common.{◌<◌, ◌+◌, length, arith}
use Rattle.std.proofs.lemmas.List.{take_rest, length-drop}
use Rattle.assembler.proofs.Parts.{parts_split, parts_whole}
use Rattle.assembler.proofs.words.split_line.Goals as goal

pub returns-in-Some : goal.returns-in-Some
returns-in-Some c =
    let text = c.args.text.now in
    let end = c.in-Some.end in
    let first = c.in-Some.ensures.0 in
    let high : end < length text = first.high in
    rw (take_rest text (end + 1)) (
      parts_split 10 text end high (λ j l e. first.before j (omega arith) l e) c.in-Some.ensures.1,
      omega (arith, length-drop (end + 1) text),
    )

pub returns-in-None : goal.returns-in-None
returns-in-None c = parts_whole 10 c.args.text.now (λ j l e. c.in-None.ensures j (omega arith) l e)
