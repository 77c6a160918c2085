-- That threads may use one pool (`SessionPool` is `Sync`), and that its seats and passes may be given to a thread
-- (`Send`). A search at the whole breaks off, so each field has its own.
use denote.Param.Send.{IsSend, IsSync, sendable, shr_send, shr_sync}
use denote.Param.SendFields.{FieldsHave, declared_send, declared_sync, as_row_send, as_row_sync}
use denote.Ref.{NamedLft}
use Rattle.std.proofs.Crossing.{crosses, sync}
use Rattle.program_cache.proofs.Crossing.{cache-sync, compiled-sync}
use Rattle.session_pool.proofs.JobCrossing.{jobs-sync, seat-send as job-seat-send}
use Rattle.session_pool_slots.proofs.Crossing.{seat-send as slot-seat-send, slots-sync}
use Rattle.session_pool.specs.contracts.pool.Pass as pass
use Rattle.session_pool.specs.contracts.pool.ClientSeat as client
use Rattle.session_pool.specs.contracts.pool.SessionPool as pool
use Rattle.session_pool.specs.contracts.pool.WorkerSeat as worker

fields-sync : (κ : NamedLft) → FieldsHave IsSync (pool.the_type κ).parts
fields-sync κ = (
  sync,
  (
    search (cache-sync, shr_sync, as_row_sync) depth 60 fits 20000,
    (search (slots-sync) depth 60 fits 20000, (search (jobs-sync) depth 60 fits 20000, tt)),
  ),
)

pub pool-sync : (κ : NamedLft) → IsSync (pool.the_row κ)
pool-sync κ = declared_sync (pool.the_type κ) (fields-sync κ)

pub client-send : (κ : NamedLft) → IsSend (client.the_row κ)
client-send κ = declared_send (client.the_type κ)
    (search (slot-seat-send) depth 60 fits 20000, (search (compiled-sync, shr_send, as_row_send, sendable) depth 60 fits 20000, tt))

pub worker-send : (κ : NamedLft) → IsSend (worker.the_row κ)
worker-send κ = declared_send (worker.the_type κ) (search (slot-seat-send) depth 60 fits 20000, (search (job-seat-send) depth 60 fits 20000, tt))

pub pass-send : IsSend pass.the_row
pass-send = search (crosses, sendable) depth 60 fits 20000
