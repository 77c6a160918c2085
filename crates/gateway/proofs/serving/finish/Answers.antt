-- The gate was asked once more.
use Rattle.std.proofs.Common.{rules}
use Rattle.gateway_core.specs.Gates.{Asked, never, once_more}
use Rattle.gateway.proofs.serving.finish.Goals as goal

pub loop-init : goal.loop-init
loop-init g c = let asked : Asked g.G.Gate.says c.args.gate.now c.args.gate.now = never in search rules

pub loop-preserved : goal.loop-preserved
loop-preserved g c = let asked = once_more _ c.loop.invariant.asked c.at.ensures in search rules
