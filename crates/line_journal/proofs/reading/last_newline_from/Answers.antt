use Rattle.std.proofs.Common.{◌≡◌, ◌∙◌, ◌+◌, ◌-◌, true, false, length, take, drop, refl, arith, length-drop}
use Rattle.std.proofs.lemmas.List.{take_all}
use Rattle.line_journal.specs.Lines.{closed_gate}
use Rattle.line_journal.proofs.Gates.{no_last_line, not_the_last}
use Rattle.line_journal.proofs.reading.last_newline_from.Goals as goal

pub returns-in_err-end-clause-none : goal.returns-in_err-end-clause-none
returns-in_err-end-clause-none c is = no_last_line (drop c.args.from c.args.bytes.now) (c.in_err-end.ensures.none refl)

pub returns-then-ne-clause-none : goal.returns-then-ne-clause-none
returns-then-ne-clause-none c is =
    let file = c.args.bytes.now in
    let end = c.in_ok-end.end in
    not_the_last file c.args.from end c.in_ok-end.ensures.found (λ closed.
    let all : take (length file - (end + 1)) (drop (end + 1) file) ≡ closed_gate = take_all _ (drop (end + 1) file) (omega (arith, length-drop (end + 1) file)) ∙ closed in
    let differs : true ≡ false = rw all at c.if-ne.ensures in
    cc differs)
