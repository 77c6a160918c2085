use Rattle.std.proofs.Common.{◌∙◌, reverse, sym}
use Rattle.machine_store.specs.Viewing.{end_over}
use Rattle.machine_store.proofs.Viewing.{ends-here, ends-later}
use Rattle.machine_store.proofs.views.end_over.Goals as goal

pub returns-in-Some : goal.returns-in-Some
returns-in-Some c =
    ends-here c.args.newer.now c.loop-frame.frame-index c.frame-item.result c.in-Some.first c.args.end (end_over (reverse c.args.newer.now) c.args.end)
    c.loop-frame-test.true c.frame-item.is (sym c.first.ensures ∙ c.in-Some.is) c.loop-frame.invariant

pub loop-frame-preserved : goal.loop-frame-preserved
loop-frame-preserved c =
    ends-later c.args.newer.now c.loop-frame.frame-index c.frame-item.result c.args.end (end_over (reverse c.args.newer.now) c.args.end)
    c.loop-frame-test.true c.frame-item.is (sym c.first.ensures ∙ c.in_default.is) c.loop-frame.invariant
