-- That threads may hold and share a schema's nodes: they can be sent, and shared. A datum holds data: what the compiler
-- makes of that ring is `knot.crosses`.
use denote.Param.Send.{IsSend, IsSync, sendable}
use Rattle.std.proofs.Crossing.{crosses}
use Rattle.std.proofs.MapsCrossing as maps
use Rattle.avro_types.proofs.aliases.Aliases.TheSendSync as aliases
use Rattle.avro_types.proofs.datum.Datum.TheLaws.TheKnot as knot
use Rattle.avro_types.proofs.name.Name.TheSendSync as name
use Rattle.avro_types.proofs.symbols.Symbols.TheSendSync as symbols
use Rattle.avro_types.specs.contracts.nodes.Nodes as nodes

pub nodes-send : IsSend nodes.the_row
nodes-send = search (aliases.the_send, name.the_send, symbols.the_send, knot.crosses, maps.String-send, crosses, sendable) depth 60 fits 20000

pub nodes-sync : IsSync nodes.the_row
nodes-sync = search (aliases.the_sync, name.the_sync, symbols.the_sync, knot.crosses, maps.String-sync, crosses, sendable) depth 60 fits 20000
