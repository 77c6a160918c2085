-- What is given to a thread may be.
use denote.Param.Send.{IsSend, sendable, shr_send}
use denote.Param.SendFields.{declared_send, as_row_send}
use denote.Ref.{NamedLft}
use Rattle.std.proofs.Crossing.{crosses, send}
use Rattle.schema_registry.proofs.shared.Receipt.TheSendSync as receipts
use Rattle.session_pool.proofs.Crossing.{client-send, pool-sync}
use Rattle.gateway_tests.specs.contracts.working.Asking as asking_row
use Rattle.gateway_tests.proofs.working.run_clients.Goals as goal

asking-send : (α κ : NamedLft) → IsSend (asking_row.the_row α κ)
asking-send α κ = declared_send (asking_row.the_type α κ) (
  send,
  (
    search (pool-sync, shr_send, as_row_send) depth 60 fits 20000,
    (
      search (client-send, as_row_send) depth 60 fits 20000,
      (search (receipts.the_send, crosses, sendable) depth 60 fits 20000, tt),
    ),
  ),
)

pub map_vec-answers-requires-send-J : goal.map_vec-answers-requires-send-J
map_vec-answers-requires-send-J g c = search (asking-send, crosses, sendable) depth 60 fits 20000
