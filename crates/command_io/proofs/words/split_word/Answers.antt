use Rattle.std.proofs.Common.{arith}
use Rattle.command_io.proofs.Parts.{first_parts, one_part}
use Rattle.command_io.proofs.words.split_word.Goals as goal

pub returns-in-Some : goal.returns-in-Some
returns-in-Some c =
    let cut = c.in-Some.ensures.byte (omega arith) (λ w o h. h) in
    rw (cut.0, cut.1) (first_parts c.args.line.now cut.2)

pub returns-in-None : goal.returns-in-None
returns-in-None c = one_part c.args.line.now (c.in-None.ensures.byte (omega arith) (λ w o h. h))
