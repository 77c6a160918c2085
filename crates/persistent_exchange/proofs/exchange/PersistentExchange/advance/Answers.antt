use Rattle.http_server.proofs.Theorems.{always_served}
use Rattle.persistent_exchange.proofs.exchange.PersistentExchange.advance.Goals as goal

pub returns-else-is_empty-clause-served : goal.returns-else-is_empty-clause-served
returns-else-is_empty-clause-served g c = always_served c.self.inside.connection
