use Rattle.session_pool.proofs.Balance.{gets}
use Rattle.session_pool.proofs.turning.steal_one.Goals as goal

pub steal_as-requires-clause-takes : goal.steal_as-requires-clause-takes
steal_as-requires-clause-takes c = gets _ _
