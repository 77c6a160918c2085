-- The parts in a row.
use Rattle.std.proofs.Common.{append_assoc, ◌∙◌}
use Rattle.upstream_answers.proofs.question.request_line.Goals as goal

pub returns : goal.returns
returns c = c.in_ok-format.ensures.ok ∙ simp append_assoc
