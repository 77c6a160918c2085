-- One line more, and no line more.
use Rattle.commands.proofs.Answers.{continues_all, continues_one}
use Rattle.commands.proofs.running.answers.Goals as goal

pub loop-line-preserved : goal.loop-line-preserved
loop-line-preserved c =
    let pushed = c.in_ok-push_line_answer.ensures in
    continues_one _ _ _ _ _ _ pushed.0 _ _ c.in-Some.ensures.lines.0 c.loop-line.invariant pushed.1 pushed.2 c.in_ok-push_str.ensures.bytes

pub returns : goal.returns
returns c = continues_all _ _ _ _ c.in_default.ensures.lines c.loop-line.invariant
