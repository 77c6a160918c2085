-- What the gate was asked in the two calls.
use Rattle.gateway.proofs.Gates.{asked_on, no_then}
use Rattle.gateway.proofs.Stopped.{if_why_on}
use Rattle.gateway.proofs.serving.feed.Goals as goal

pub returns-clause-asked : goal.returns-clause-asked
returns-clause-asked g c = asked_on g.G.Gate.says _ _ _ c.send.ensures.asked c.close.ensures.asked

pub returns-clause-why : goal.returns-clause-why
returns-clause-why g c = if_why_on _ _ _ (no_then g.G.Gate.says _ _ _ c.send.ensures.asked) _ c.close.ensures.why
