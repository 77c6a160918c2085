-- What is given to a thread may be.
use denote.Param.Send.{IsSend, sendable, shr_send}
use denote.Param.SendFields.{declared_send, as_row_send}
use denote.Ref.{NamedLft}
use Rattle.std.proofs.Crossing.{crosses, send}
use Rattle.schema_registry.proofs.shared.Receipt.TheSendSync as receipts
use Rattle.session_pool.proofs.Crossing.{client-send, pool-sync}
use Rattle.pool_bench.specs.contracts.by_threads.Asking as asking
use Rattle.pool_bench.proofs.by_threads.ask_all.Goals as goal

asking-send : (α κ : NamedLft) → IsSend (asking.the_row α κ)
asking-send α κ = declared_send (asking.the_type α κ) (
  send,
  (
    search (pool-sync, shr_send, as_row_send) depth 60 fits 20000,
    (
      search (client-send) depth 60 fits 20000,
      (
        search (receipts.the_send, crosses, sendable) depth 60 fits 20000,
        (
          search (receipts.the_send, crosses, sendable) depth 60 fits 20000,
          (search (crosses, sendable) depth 60 fits 20000, tt),
        ),
      ),
    ),
  ),
)

pub map_vec-right-requires-send-J : goal.map_vec-right-requires-send-J
map_vec-right-requires-send-J g c = search (asking-send, crosses, sendable) depth 60 fits 20000
