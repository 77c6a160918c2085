use Rattle.std.proofs.Common.{inl, ◌∙◌, rules, arith}
use Rattle.line_journal.specs.Lines.{IsNewLine}
use Rattle.line_journal.proofs.Steps.{at_rest-lines, has_rest-lines}
use Rattle.line_journal.proofs.LastLine.{no_last}
use Rattle.line_journal.proofs.journal.Journal.append.Goals as goal

pub returns-then-not-takes_lines-clause-crash : goal.returns-then-not-takes_lines-clause-crash
returns-then-not-takes_lines-clause-crash g c lines rests file may = inl (at_rest-lines lines _ rests.are_lines (rests.durable file may ∙ rests.file))

pub returns-in-Err-clause-crash : goal.returns-in-Err-clause-crash
returns-in-Err-clause-crash g c lines rests file may = inl (at_rest-lines lines _ rests.are_lines (rests.durable file may ∙ rests.file))

pub returns-in_err-bytes-clause-crash : goal.returns-in_err-bytes-clause-crash
returns-in_err-bytes-clause-crash g c lines rests file may = inl (at_rest-lines lines _ rests.are_lines (rests.durable file may ∙ rests.file))

pub returns-in-Err-stage-clause-refused : goal.returns-in-Err-stage-clause-refused
returns-in-Err-stage-clause-refused g c lines rests is_open =
    let new : IsNewLine c.args.line.items = search rules in
    c.unstage.ensures.mended is_open lines (c.in-Err-stage.ensures.shut lines c.args.line.items (c.deref-2.ensures.value ∙ c.in_ok-bytes.ensures) new (no_last _ _ _ lines rests))

pub returns-in-Err-stage-clause-crash : goal.returns-in-Err-stage-clause-crash
returns-in-Err-stage-clause-crash g c lines rests file may =
    let new : IsNewLine c.args.line.items = search rules in
    let shut = c.unstage.ensures.shut lines (c.in-Err-stage.ensures.shut lines c.args.line.items (c.deref-2.ensures.value ∙ c.in_ok-bytes.ensures) new (no_last _ _ _ lines rests)) in
    inl (has_rest-lines lines file shut.are_lines (shut.left file may))

pub returns-clause-kept : goal.returns-clause-kept
returns-clause-kept g c lines rests =
    c.in_default-open_gate.ensures.counted lines c.args.line.items
    (c.in_default-stage.ensures.staged lines c.args.line.items (c.deref-2.ensures.value ∙ c.in_ok-bytes.ensures) (search rules) (no_last _ _ _ lines rests))
    (omega (arith, c.len.ensures, c.stage.ensures.stays.0))
