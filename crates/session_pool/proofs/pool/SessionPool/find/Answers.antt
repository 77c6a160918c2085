use Rattle.session_pool.proofs.Searches.{ready_later}
use Rattle.session_pool.specs.Order.Comes.{by_scan}
use Rattle.session_pool.proofs.pool.SessionPool.find.Goals as goal

pub returns-in-None-clause-found : goal.returns-in-None-clause-found
returns-in-None-clause-found c = ready_later _ _ _ _ c.in-None.ensures.found c.scan.ensures.found

pub returns-in-None-clause-order : goal.returns-in-None-clause-order
returns-in-None-clause-order c = by_scan _ _ _ c.in-None.ensures.order c.scan.ensures.order
