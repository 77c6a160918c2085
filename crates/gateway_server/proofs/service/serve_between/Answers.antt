-- What is given to the threads that ask may be.
use denote.Param.Send.{sendable}
use Rattle.std.proofs.Crossing.{crosses}
use Rattle.gateway_server.proofs.Crossing.{fetcher-goes}
use Rattle.gateway_server.proofs.service.serve_between.Goals as goal

pub join-fetched-requires-send-F : goal.join-fetched-requires-send-F
join-fetched-requires-send-F g c κs within = search (fetcher-goes, crosses, c.type_bounds, sendable) depth 60 fits 20000
