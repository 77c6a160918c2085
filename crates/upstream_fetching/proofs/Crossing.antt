-- That threads may share the queue of the ids that are to be asked for (`FetchQueue` is `Sync`).
use denote.Param.Send.{IsSend, IsSync, sendable}
use denote.RattleType.{RattleType}
use Rattle.std.proofs.Crossing.{crosses}
use Rattle.std.proofs.sync.Mutex.TheSendSync as mutex
use Rattle.upstream_schemas.specs.declared.upstream.Upstream as upstream
use Rattle.upstream_fetching.specs.contracts.failure.Failure as failure
use Rattle.upstream_fetching.specs.contracts.fetch_list.FetchList as list
use Rattle.upstream_fetching.specs.contracts.queue.FetchQueue as queue

module _ (U : RattleType) (g : upstream.Ghosts U.Denot) where
  failure-send : IsSend (failure.the_row U g)
  failure-send = search (crosses, sendable) depth 60 fits 20000

  list-send : IsSend (list.the_row U g)
  list-send = search (failure-send, crosses, sendable) depth 60 fits 20000

  pub queue-sync : IsSync (queue.the_row U g)
  queue-sync = search (list-send, mutex.the_sync, crosses, sendable) depth 60 fits 20000
