-- That threads may hold and share a session of a program that they share: it can be sent, and shared.
use denote.Param.Send.{IsSend, IsSync, sendable}
use denote.Ref.{NamedLft}
use Rattle.std.proofs.Crossing.{crosses}
use Rattle.machine_plan.proofs.Crossing.{planned-sync}
use Rattle.machine.proofs.MachineCrossing.{machine-send, machine-sync}
use Rattle.session_core.specs.contracts.session.Session as session

pub session-send : (κ : NamedLft) → IsSend (session.the_row κ)
session-send κ = search (planned-sync, machine-send, crosses, sendable) depth 60 fits 20000

pub session-sync : (κ : NamedLft) → IsSync (session.the_row κ)
session-sync κ = search (planned-sync, machine-sync, crosses, sendable) depth 60 fits 20000
