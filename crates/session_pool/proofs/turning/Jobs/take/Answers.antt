use Rattle.session_pool.proofs.Balance.{gets_own}
use Rattle.session_pool.proofs.turning.Jobs.take.Goals as goal

pub pop_as-taken-requires-clause-fifo : goal.pop_as-taken-requires-clause-fifo
pop_as-taken-requires-clause-fifo c = λ _. gets_own _ _ c.args.seat.now.owner
