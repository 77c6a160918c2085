-- That threads may hold and share a schema: it can be sent, and shared.
use denote.Param.Send.{IsSend, IsSync, sendable}
use Rattle.std.proofs.Crossing.{crosses}
use Rattle.avro_types.proofs.Crossing.{nodes-send, nodes-sync}
use Rattle.avro_schema.specs.contracts.schema.Schema as schema

pub schema-send : IsSend schema.the_row
schema-send = search (nodes-send, nodes-sync, crosses, sendable) depth 60 fits 20000

pub schema-sync : IsSync schema.the_row
schema-sync = search (nodes-send, nodes-sync, crosses, sendable) depth 60 fits 20000
