use Rattle.std.specs.Prelude.{◌≡◌}
use Rattle.persistent_exchange.specs.Persistent.{HandsOn}
use Rattle.persistent_exchange.proofs.exchange.PersistentExchange.hand_on.Given as goal

abbrev pub invariant-loop-self : goal.invariant-loop-self
invariant-loop-self l = HandsOn l.initial.self l.self × (l.self.config ≡ l.initial.self.config)

abbrev pub decreases-loop-self : goal.decreases-loop-self
decreases-loop-self l = l.self.seen
