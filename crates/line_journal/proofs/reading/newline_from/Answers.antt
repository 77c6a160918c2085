use Rattle.std.proofs.Common.{◌≡◌, ◌∙◌, ◌-◌, length, take, drop, sym, ap, arith, length-drop}
use Rattle.std.specs.List.{position}
use Rattle.std.proofs.lemmas.List.{take_all}
use Rattle.line_journal.proofs.Gates.{is_newline, line_to, no_line_to}
use Rattle.line_journal.proofs.reading.newline_from.Goals as goal

pub returns-in-Some-clause-found : goal.returns-in-Some-clause-found
returns-in-Some-clause-found c =
    let file = c.args.bytes.now in
    let all : take (length file - c.args.from) (drop c.args.from file) ≡ drop c.args.from file = take_all _ (drop c.args.from file) (omega (arith, length-drop c.args.from file)) in
    line_to file c.args.from c.requires c.in-Some.len (ap (position is_newline) (sym all) ∙ sym c.first_newline.ensures ∙ c.in-Some.is)

pub returns-in-None-clause-none : goal.returns-in-None-clause-none
returns-in-None-clause-none c is =
    let file = c.args.bytes.now in
    let all : take (length file - c.args.from) (drop c.args.from file) ≡ drop c.args.from file = take_all _ (drop c.args.from file) (omega (arith, length-drop c.args.from file)) in
    no_line_to file c.args.from c.requires (ap (position is_newline) (sym all) ∙ sym c.first_newline.ensures ∙ c.in-None.is)
