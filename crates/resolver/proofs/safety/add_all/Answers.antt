-- One more pair is added.
use Rattle.std.proofs.Common.{rules, ◌<◌, length}
use Rattle.resolver.proofs.Closed.{all_added}
use Rattle.resolver.proofs.safety.add_all.Goals as goal

pub loop-pair-preserved : goal.loop-pair-preserved
loop-pair-preserved c = all_added c.args.more.now c.loop-pair.pair-index _ _ _ (let h : c.loop-pair.pair-index < length c.args.more.now = search rules in h) c.loop-pair.invariant c.in_ok-add.ensures
