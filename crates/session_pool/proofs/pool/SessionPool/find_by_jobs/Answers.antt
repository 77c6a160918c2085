use Rattle.session_pool.proofs.Orders.{others_then}
use Rattle.session_pool.proofs.Searches.{jobs_later}
use Rattle.session_pool.specs.Order.Comes.{by_own}
use Rattle.session_pool.proofs.pool.SessionPool.find_by_jobs.Goals as goal

pub returns-in-None-clause-found : goal.returns-in-None-clause-found
returns-in-None-clause-found c = jobs_later _ _ _ _ c.in-None.ensures.found c.steal_in_turn.ensures.found

pub returns-in-Some-clause-order : goal.returns-in-Some-clause-order
returns-in-Some-clause-order c = by_own _ _ c.in-Some.ensures.order

pub returns-in-None-clause-order : goal.returns-in-None-clause-order
returns-in-None-clause-order c = others_then c.args.self.now _ _ _ _ c.in-None.ensures.order c.steal_in_turn.ensures.order
