-- The line `end`, another line, and no line more.
use Rattle.std.proofs.Common.{sym, ◌∙◌}
use Rattle.commands.proofs.UpToEnd.{none_passed, one_passed, passed_all, passed_to_end}
use Rattle.commands.proofs.listed.split_listing.Goals as goal

pub loop-line-init : goal.loop-line-init
loop-line-init c = none_passed c.args.input.now

pub returns-then-is_end : goal.returns-then-is_end
returns-then-is_end c =
    passed_to_end c.args.input.now c.loop-line.rest.now c.in-Some.line.now c.in-Some.later.now c.loop-line.invariant c.in-Some.ensures.lines.0 (sym c.is_end.ensures ∙ c.if-is_end.true)

pub loop-line-preserved : goal.loop-line-preserved
loop-line-preserved c =
    one_passed c.args.input.now c.loop-line.rest.now c.in-Some.line.now c.in-Some.later.now c.loop-line.invariant c.in-Some.ensures.place c.in-Some.ensures.lines.0 (sym c.is_end.ensures ∙ c.if-is_end.false)

pub returns : goal.returns
returns c = passed_all c.args.input.now c.loop-line.rest.now c.loop-line.invariant c.in_default.ensures.lines
