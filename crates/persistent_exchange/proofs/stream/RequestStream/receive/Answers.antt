-- One more step.
use Rattle.std.proofs.Common.{◌∙◌}
use Rattle.persistent_exchange.proofs.Writing.{gains_on}
use Rattle.persistent_exchange.proofs.stream.RequestStream.receive.Goals as goal

pub loop-preserved : goal.loop-preserved
loop-preserved g c =
    (gains_on _ _ _ _ _ _ c.loop.invariant.0 c.step.ensures.received, c.step.ensures.sent ∙ c.loop.invariant.1)

pub returns-in-Some-clause-received : goal.returns-in-Some-clause-received
returns-in-Some-clause-received g c = gains_on _ _ _ _ _ _ c.loop.invariant.0 c.step.ensures.received

pub returns-in-Some-clause-sent : goal.returns-in-Some-clause-sent
returns-in-Some-clause-sent g c = c.step.ensures.sent ∙ c.loop.invariant.1
