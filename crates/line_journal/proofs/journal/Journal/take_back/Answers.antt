use Rattle.std.proofs.Common.{inr, ◌∙◌, ◌++◌, ◌∷◌, []}
use Rattle.line_journal.proofs.Steps.{at_rest-lines}
use Rattle.line_journal.proofs.journal.Journal.take_back.Goals as goal

pub returns-then-not-was_open-clause-crash : goal.returns-then-not-was_open-clause-crash
returns-then-not-was_open-clause-crash g c lines line rests file may =
    inr (at_rest-lines (lines ++ line ∷ []) file rests.are_lines (rests.durable file may ∙ rests.file))

pub returns-in_default-clause-crash : goal.returns-in_default-clause-crash
returns-in_default-clause-crash g c lines line rests file may =
    inr (at_rest-lines (lines ++ line ∷ []) file rests.are_lines (rests.durable file may ∙ rests.file))
