use Rattle.session_pool.proofs.Balance.{puts}
use Rattle.session_pool.proofs.turning.Jobs.put.Goals as goal

pub push_as-requires-clause-pushes : goal.push_as-requires-clause-pushes
push_as-requires-clause-pushes c = puts _ _ _ c.args.seat.now.owner
