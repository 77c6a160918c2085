use Rattle.persistent_exchange.proofs.Answering.{calls_are_for_the_seen}
use Rattle.persistent_exchange.proofs.laws.calls_are_for_the_seen.Goals as goal

pub returns : goal.returns
returns c = calls_are_for_the_seen
