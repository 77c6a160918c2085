use Rattle.std.proofs.Common.{◌∙◌, inl}
use Rattle.std.proofs.lemmas.Result.{on_ok_weaker}
use Rattle.line_journal.proofs.Steps.{has_rest-lines}
use Rattle.line_journal.proofs.LastLine.{staged-shut}
use Rattle.line_journal.proofs.journal.Journal.cut_last.Goals as goal

pub returns-clause-taken : goal.returns-clause-taken
returns-clause-taken g c =
    on_ok_weaker c.cut_rest.result (λ mended lines line ends.
    mended lines (staged-shut _ _ _ lines line (c.close_gate.ensures.stays ∙ c.requires.last) (c.in_ok-close_gate.ensures.closed lines line ends))) c.cut_rest.ensures.mended

pub returns-clause-crash : goal.returns-clause-crash
returns-clause-crash g c lines line ends file may =
    let shut = c.cut_rest.ensures.shut lines (staged-shut _ _ _ lines line (c.close_gate.ensures.stays ∙ c.requires.last) (c.in_ok-close_gate.ensures.closed lines line ends)) in
    inl (has_rest-lines lines file shut.are_lines (shut.left file may))
