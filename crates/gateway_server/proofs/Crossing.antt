-- That threads may share one `Shared` and one `Beside` (they are `Sync`), and that what clients, workers and those that
-- ask are given may be given to a thread (`Send`), field by field.
use denote.Param.Send.{IsSend, IsSync, sendable, shr_send, shr_sync}
use denote.Param.SendFields.{FieldsHave, declared_send, declared_sync, as_row_send, as_row_sync}
use denote.Ref.{NamedLft}
use denote.RattleType.{RattleType}
use Rattle.std.proofs.Crossing.{crosses, sync}
use Rattle.std.proofs.option.Option.TheSendSync as options
use Rattle.std.proofs.sync.Mutex.TheSendSync as mutex
use Rattle.upstream_schemas.proofs.Crossing.{schemas-sync}
use Rattle.upstream_schemas.specs.declared.upstream.Upstream as upstream
use Rattle.upstream_fetching.proofs.Crossing.{queue-sync}
use Rattle.gateway_server.specs.contracts.beside.Beside as beside
use Rattle.gateway_server.specs.contracts.beside.FetchNotes as notes
use Rattle.gateway_server.specs.contracts.beside.Questions as questions
use Rattle.gateway_server.proofs.connections.Connections.TheSendSync as connections
use Rattle.schema_registry.proofs.Crossing.{shared-sync}
use Rattle.session_pool.proofs.Crossing.{client-send, pool-sync, worker-send}
use Rattle.gateway_server.proofs.gate.Signals.TheSendSync as signals
use Rattle.gateway_server.specs.contracts.beside.Watching as watching
use Rattle.gateway_server.specs.contracts.client.Client as client
use Rattle.gateway_server.specs.contracts.fetchers.Fetcher as fetcher
use Rattle.gateway_server.specs.contracts.shared.Shared as shared
use Rattle.gateway_server.specs.contracts.worker.Worker as worker

fields-sync : (α ι : NamedLft) → FieldsHave IsSync (shared.the_type α ι).parts
fields-sync α ι = (
  sync,
  (
    search (shared-sync, shr_sync, as_row_sync) depth 60 fits 20000,
    (
      search (pool-sync, shr_sync, as_row_sync) depth 60 fits 20000,
      (
        search (signals.the_sync, shr_sync, as_row_sync) depth 60 fits 20000,
        tt,
      ),
    ),
  ),
)

pub threads-share : (α ι : NamedLft) → IsSync (shared.the_row α ι)
threads-share α ι = declared_sync (shared.the_type α ι) (fields-sync α ι)

pub notes-sync : IsSync notes.the_row
notes-sync = search (mutex.the_sync, crosses, sendable) depth 60 fits 20000

pub watching-sync : (α : NamedLft) (R : RattleType) → IsSync R → IsSync (watching.the_row α R)
watching-sync α R runs = declared_sync (watching.the_type α R) (
  search (runs, shr_sync, as_row_sync) depth 60 fits 20000,
  (
    search (crosses, sendable) depth 60 fits 20000,
    (
      search (notes-sync, shr_sync, as_row_sync) depth 60 fits 20000,
      (search (crosses, sendable) depth 60 fits 20000, tt),
    ),
  ),
)

module _ (U : RattleType) (g : upstream.Ghosts U.Denot) where
  questions-sync : IsSync (questions.the_row U g)
  questions-sync = declared_sync (questions.the_type U g) (
    search (queue-sync) depth 60 fits 20000,
    (search (notes-sync) depth 60 fits 20000, tt),
  )

  pub beside-sync : (α ι : NamedLft) → IsSync (beside.the_row α ι U g)
  beside-sync α ι = declared_sync (beside.the_type α ι U g) (
    search (schemas-sync, shr_sync, as_row_sync) depth 60 fits 20000,
    (
      search (questions-sync, shr_sync, as_row_sync) depth 60 fits 20000,
      (
        search (shr_sync, as_row_sync, crosses, sendable) depth 60 fits 20000,
        (search (shared-sync, shr_sync, as_row_sync) depth 60 fits 20000, tt),
      ),
    ),
  )

  pub fetcher-goes : (α ι : NamedLft) (R : RattleType) → IsSync R → IsSync U → IsSend (fetcher.the_row α ι R U g)
  fetcher-goes α ι R runs asks = declared_send (fetcher.the_type α ι R U g) (
    search (beside-sync, shr_send, as_row_send) depth 60 fits 20000,
    (
      search (asks, shr_send, as_row_send) depth 60 fits 20000,
      (search (watching-sync α R runs, shr_send, as_row_send) depth 60 fits 20000, tt),
    ),
  )

  pub client-goes : (α ι κ : NamedLft) → IsSend (client.the_row α ι κ U g)
  client-goes α ι κ = declared_send (client.the_type α ι κ U g) (
    search (threads-share, shr_send, as_row_send) depth 60 fits 20000,
    (
      search (beside-sync, options.the_send, shr_send, as_row_send, crosses, sendable) depth 60 fits 20000,
      (
        search (client-send) depth 60 fits 20000,
        (search (worker-send) depth 60 fits 20000, (search (connections.the_send) depth 60 fits 20000, tt)),
      ),
    ),
  )

pub worker-goes : (α ι : NamedLft) → IsSend (worker.the_row α ι)
worker-goes α ι = declared_send (worker.the_type α ι) (
  search (threads-share, shr_send, as_row_send) depth 60 fits 20000,
  (search (worker-send) depth 60 fits 20000, tt),
)
