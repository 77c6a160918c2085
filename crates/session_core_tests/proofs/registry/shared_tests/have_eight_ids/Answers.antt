use denote.Param.Send.{sendable}
use Rattle.std.proofs.Crossing.{sync}
use Rattle.schema_registry.proofs.Crossing.{shared-sync}
use Rattle.session_core_tests.proofs.registry.shared_tests.have_eight_ids.Goals as goal

pub map_indices-requires-sync-F : goal.map_indices-requires-sync-F
map_indices-requires-sync-F g c = search (shared-sync, sync, c.type_bounds, sendable) depth 60 fits 20000
