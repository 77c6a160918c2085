-- What is given to a thread that asks may be.
use denote.Param.Send.{sendable}
use Rattle.std.proofs.Crossing.{crosses}
use Rattle.gateway_server.proofs.Crossing.{fetcher-goes}
use Rattle.gateway_server.proofs.fetchers.run_fetchers.Goals as goal

pub map_vec-requires-send-J : goal.map_vec-requires-send-J
map_vec-requires-send-J g c κs within = search (fetcher-goes, crosses, c.type_bounds, sendable) depth 60 fits 20000
