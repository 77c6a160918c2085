-- The gate was asked once more, and may have said no.
use Rattle.std.proofs.Common.{rules}
use Rattle.gateway_core.specs.Gates.{Asked, never, once_more}
use Rattle.gateway.proofs.Gates.{says_no}
use Rattle.gateway.proofs.serving.send.Goals as goal

pub loop-init : goal.loop-init
loop-init g c = let asked : Asked g.G.Gate.says c.args.gate.now c.args.gate.now = never in search rules

pub returns-then-not-at-clause-asked : goal.returns-then-not-at-clause-asked
returns-then-not-at-clause-asked g c = once_more _ c.loop.invariant.asked c.at.ensures

pub returns-then-not-at-clause-why : goal.returns-then-not-at-clause-why
returns-then-not-at-clause-why g c = says_no g.G.Gate.says _ _ _ c.loop.invariant.asked c.if-not-at.ensures

pub loop-preserved : goal.loop-preserved
loop-preserved g c = let asked = once_more _ c.loop.invariant.asked c.at.ensures in search rules
