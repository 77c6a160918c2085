-- One line more, and no line more.
use Rattle.spec_sessions.specs.World.{no_world}
use Rattle.spec_lines.specs.Replaying.{AnswersLine}
use Rattle.commands.proofs.Folding.{continues-all, continues-one}
use Rattle.commands.proofs.replaying.answers.Goals as goal

pub loop-line-preserved : goal.loop-line-preserved
loop-line-preserved c =
    continues-one AnswersLine _ _ _ _ _ _ no_world _ _ c.in-Some.ensures.lines.0 c.loop-line.invariant c.in_ok-push_answer.ensures

pub returns : goal.returns
returns c = (c.loop-line.world, continues-all AnswersLine _ _ _ no_world _ c.in_default.ensures.lines c.loop-line.invariant)
