-- What is given to a thread may be.
use denote.Param.Send.{IsSend, sendable, shr_send}
use denote.Param.SendFields.{declared_send, as_row_send}
use denote.Ref.{NamedLft}
use Rattle.std.proofs.Crossing.{crosses}
use Rattle.session_pool.proofs.Crossing.{pool-sync, worker-send}
use Rattle.session_pool_tests.proofs.gates.Gate.TheSendSync as gates
use Rattle.session_pool_tests.specs.contracts.gates.Held as held
use Rattle.session_pool_tests.proofs.gates.meet.Goals as goal

held-send : (α κ : NamedLft) → IsSend (held.the_row α κ)
held-send α κ = declared_send (held.the_type α κ) (
  search (pool-sync, shr_send, as_row_send) depth 60 fits 20000,
  (
    search (gates.the_sync, shr_send, as_row_send) depth 60 fits 20000,
    (search (worker-send, as_row_send) depth 60 fits 20000, tt),
  ),
)

pub join-turn-requires-send-F : goal.join-turn-requires-send-F
join-turn-requires-send-F g c κs within = search (held-send, crosses, sendable) depth 60 fits 20000
