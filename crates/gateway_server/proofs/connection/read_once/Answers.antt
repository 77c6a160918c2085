-- The tag has the bytes that were received.
use Rattle.std.proofs.Common.{ℕ, List, [], None, Err, subst, sym, arith}
use Rattle.spec_service.specs.declared.fault.Fault.TheVariants.{NoMemory}
use Rattle.gateway_server.specs.Handing.{AsksOver}
use Rattle.gateway_server.proofs.Asking.{asked_by_bytes}
use Rattle.gateway_server.proofs.connection.read_once.Goals as goal

pub returns-clause-asks : goal.returns-clause-asks
returns-clause-asks c =
    let P : List ℕ → Type 0 = λ bytes. AsksOver (record { stream = None; received = bytes }) c.into_request.result in
    subst P (sym c.of.ensures) (asked_by_bytes c.in-Some.reception.bytes c.into_request.result c.into_request.ensures.ended)

pub returns-in_default-clause-asks : goal.returns-in_default-clause-asks
returns-in_default-clause-asks c =
    let P : List ℕ → Type 0 = λ bytes. AsksOver (record { stream = None; received = bytes }) (Err NoMemory) in
    subst P (sym c.empty.ensures) (asked_by_bytes [] (Err NoMemory) (λ some. absurd (omega (arith, some))))
