-- One line more, and no line more.
use Rattle.spec_lines.specs.Debugging.{AnswersCommand, given}
use Rattle.commands.proofs.Folding.{continues-all, continues-one}
use Rattle.commands.proofs.session_debugging.answers.Goals as goal

pub loop-line-preserved : goal.loop-line-preserved
loop-line-preserved c =
    continues-one AnswersCommand _ _ _ _ _ _ _ _ _ c.in-Some.ensures.lines.0 c.loop-line.invariant c.in_ok-push_answer.ensures

pub returns-clause-ok : goal.returns-clause-ok
returns-clause-ok c =
    let start = given c.args.program.now c.args.payload.now in
    let all = continues-all AnswersCommand _ _ _ start _ c.in_default.ensures.lines c.loop-line.invariant in
    ((c.loop-line.session, all), c.in_ok-session.ensures.ok.1)
