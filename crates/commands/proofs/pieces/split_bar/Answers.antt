-- The first bar, or the last piece.
use Rattle.std.proofs.Common.{◌<◌, ◌+◌, length, arith}
use Rattle.std.proofs.lemmas.List.{take_rest, length-drop}
use Rattle.assembler.proofs.Parts.{parts_split, parts_whole}
use Rattle.commands.proofs.pieces.split_bar.Goals as goal

pub returns-in-Some : goal.returns-in-Some
returns-in-Some c =
    let line = c.args.line.now in
    let end = c.in-Some.end in
    let first = c.in-Some.ensures.0 in
    let high : end < length line = first.high in
    rw (take_rest line (end + 1)) (
      parts_split 124 line end high (λ j l e. first.before j (omega arith) l e) c.in-Some.ensures.1,
      omega (arith, length-drop (end + 1) line),
    )

pub returns-in-None : goal.returns-in-None
returns-in-None c = parts_whole 124 c.args.line.now (λ j l e. c.in-None.ensures j (omega arith) l e)
