-- What is asked over a connection, by what was read of its request.
use Rattle.std.proofs.Common.{◌≡◌, ℕ, ◌<◌, List, [], ◌∷◌, length, None, Some, Result, Ok, Err, refl, arith}
use Rattle.spec_service.specs.declared.fault.Fault.{Fault}
use Rattle.gateway_requests.specs.Reception.{TellsWhole}
use Rattle.spec_service.specs.Asking.{asked_at}
use Rattle.spec_service.specs.Request.{Request}
use Rattle.gateway_requests.specs.Request.{request_of}
use Rattle.gateway_requests.specs.Steps.{Tells}
use Rattle.gateway_requests.specs.declared.request.Request as rust
use Rattle.spec_service.specs.StreamAnswering.{IsNext}
use Rattle.spec_service.specs.Persistent.{Persistent}
use Rattle.spec_service.specs.StreamRefused.{IsRefused}
use Rattle.spec_service.specs.Stream as streams
use Rattle.gateway_server.specs.Handing.{AsksOver}
use Rattle.spec_service.specs.Handing.{next, nothing, received, refused}

-- what is asked by a request itself
abbrev itself : Result rust.Request Fault → Result Request Fault
itself (Ok request) = Ok (request_of request)
itself (Err fault) = Err fault

tells_itself : (request : Result rust.Request Fault) → Tells request_of request (itself request)
tells_itself (Ok request) = refl
tells_itself (Err fault) = λ _. refl

-- what the bytes ask is asked, and nothing is said where there are none
pub asked_by_bytes : (bytes : List ℕ) (request : Result rust.Request Fault)
    → (0 < length bytes → TellsWhole bytes request) → AsksOver (record { stream = None; received = bytes }) request
asked_by_bytes [] request ended =
    record { asked = itself request; is_asked = nothing (itself request); tells = tells_itself request }
asked_by_bytes (byte ∷ bytes) request ended =
    let told = ended (omega arith) in
    record { asked = told.0; is_asked = received (byte ∷ bytes) told.0 told.2; tells = told.1 }

-- what the next request of a stream asks is asked
pub asked_next : (p : Persistent) (bytes : List ℕ) (a : streams.Asked) (request : Result rust.Request Fault) → IsNext p a
    → Tells request_of request (asked_at a.method a.target a.content)
    → AsksOver (record { stream = Some p; received = bytes }) request
asked_next p bytes a request is tells =
    record { asked = asked_at a.method a.target a.content; is_asked = next p bytes a is; tells = tells }

-- the next request of a stream is refused
pub refused_over : (p : Persistent) (bytes : List ℕ) (a : streams.Asked) (fault : Fault) → IsNext p a
    → IsRefused a fault → AsksOver (record { stream = Some p; received = bytes }) (Err fault)
refused_over p bytes a fault is why =
    record { asked = Err fault; is_asked = refused p bytes a fault is why; tells = λ _. refl }
