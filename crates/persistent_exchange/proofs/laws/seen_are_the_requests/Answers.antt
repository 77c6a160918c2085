use Rattle.persistent_exchange.proofs.Streams.{seen_are_the_requests}
use Rattle.persistent_exchange.proofs.laws.seen_are_the_requests.Goals as goal

pub returns : goal.returns
returns c = seen_are_the_requests
