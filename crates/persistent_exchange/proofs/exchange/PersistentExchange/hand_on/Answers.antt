use Rattle.std.proofs.Common.{◌∙◌}
use Rattle.persistent_exchange.proofs.Moving.{hands_on}
use Rattle.persistent_exchange.proofs.exchange.PersistentExchange.hand_on.Goals as goal

pub loop-self-preserved : goal.loop-self-preserved
loop-self-preserved c = (
  hands_on _ _ _ c.loop-self.invariant.0 c.hand_some_on.ensures.hands,
  c.hand_some_on.ensures.config ∙ c.loop-self.invariant.1,
)

pub returns-in_err-hand_some_on-clause-hands : goal.returns-in_err-hand_some_on-clause-hands
returns-in_err-hand_some_on-clause-hands c = hands_on _ _ _ c.loop-self.invariant.0 c.hand_some_on.ensures.hands

pub returns-in_err-hand_some_on-clause-config : goal.returns-in_err-hand_some_on-clause-config
returns-in_err-hand_some_on-clause-config c = c.hand_some_on.ensures.config ∙ c.loop-self.invariant.1
