-- What is given to a thread may be.
use denote.Param.Send.{sendable, shr_sync}
use Rattle.std.proofs.Crossing.{sync}
use Rattle.program_cache.proofs.Crossing.{cache-sync}
use Rattle.session_pool_tests.proofs.cache.asked_by_four.Goals as goal

pub map_indices-requires-sync-F : goal.map_indices-requires-sync-F
map_indices-requires-sync-F g c = search (cache-sync, shr_sync, sync, sendable) depth 60 fits 20000
