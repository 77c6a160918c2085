-- That threads may hold and share a machine: it can be sent, and shared.
use denote.Param.Send.{IsSend, IsSync, sendable}
use Rattle.std.proofs.Crossing.{crosses}
use Rattle.machine_plan.proofs.Crossing.{scratch-send, scratch-sync}
use Rattle.machine.specs.contracts.machine.Machine as machine

pub machine-send : IsSend machine.the_row
machine-send = search (scratch-send, crosses, sendable) depth 60 fits 20000

pub machine-sync : IsSync machine.the_row
machine-sync = search (scratch-sync, crosses, sendable) depth 60 fits 20000
