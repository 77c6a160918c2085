-- The request asks what its method, its target and its content ask.
use Rattle.std.proofs.Common.{◌≡◌, IfOk, Result, subst, sym}
use Rattle.spec_service.specs.declared.fault.Fault.{Fault}
use Rattle.spec_service.specs.StreamAnswering.{IsNext}
use Rattle.spec_service.specs.Stream.{Asked, asked_of}
use Rattle.gateway_server.proofs.Asking.{asked_next}
use Rattle.gateway_server.proofs.connection.read_next.Goals as goal

pub returns-in-Ok-clause-asks : goal.returns-in-Ok-clause-asks
returns-in-Ok-clause-asks c = λ received.
    let seen : Asked = asked_of c.args.stays.now.scouted in
    let is_seen : Result Asked Fault → Type 0 = λ r. IfOk r (λ a. a ≡ seen) in
    let same : c.in-Ok.request ≡ seen = subst is_seen c.in-Ok.is c.in_ok-request.ensures.request in
    let is_next : Asked → Type 0 = λ a. IsNext c.take_request.new.self a in
    asked_next c.take_request.new.self received c.in-Ok.request c.into_request.result
    (subst is_next (sym same) c.in_ok-request.ensures.next) c.into_request.ensures.tells
