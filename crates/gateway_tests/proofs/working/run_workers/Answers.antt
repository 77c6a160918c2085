-- What is given to a thread may be.
use denote.Param.Send.{IsSend, sendable, shr_send}
use denote.Param.SendFields.{declared_send, as_row_send}
use denote.Ref.{NamedLft}
use Rattle.std.proofs.Crossing.{crosses}
use Rattle.session_pool.proofs.Crossing.{pool-sync, worker-send}
use Rattle.gateway_tests.specs.contracts.working.Working as working_row
use Rattle.gateway_tests.proofs.working.run_workers.Goals as goal

working-send : (α κ : NamedLft) → IsSend (working_row.the_row α κ)
working-send α κ = declared_send (working_row.the_type α κ) (
  search (pool-sync, shr_send, as_row_send) depth 60 fits 20000,
  (
    search (crosses, sendable) depth 60 fits 20000,
    (search (worker-send, as_row_send) depth 60 fits 20000, tt),
  ),
)

pub map_vec-requires-send-J : goal.map_vec-requires-send-J
map_vec-requires-send-J g c = search (working-send, crosses, c.type_bounds, sendable) depth 60 fits 20000
