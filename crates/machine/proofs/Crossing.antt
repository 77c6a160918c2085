-- That threads may hold and share a pair with its program: it can be sent, and shared.
use denote.Param.Send.{IsSend, IsSync, sendable}
use Rattle.std.proofs.Crossing.{crosses}
use Rattle.avro_schema.proofs.Crossing.{schema-send, schema-sync}
use Rattle.machine_plan.proofs.Crossing.{planned-send, planned-sync}
use Rattle.machine.specs.contracts.pair.PairProgram as pair

pub pair-send : IsSend pair.the_row
pair-send = search (schema-send, planned-send, crosses, sendable) depth 60 fits 20000

pub pair-sync : IsSync pair.the_row
pair-sync = search (schema-sync, planned-sync, crosses, sendable) depth 60 fits 20000
