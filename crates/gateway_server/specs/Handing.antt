-- For a private clause: the request that is handed out of a connection. This project's own.
use Rattle.std.specs.Prelude.{Result}
use Rattle.spec_service.specs.declared.fault.Fault.{Fault}
use Rattle.spec_service.specs.Request.{Request}
use Rattle.gateway_requests.specs.Request.{request_of}
use Rattle.gateway_requests.specs.Steps.{Tells}
use Rattle.gateway_requests.specs.declared.request.Request as rust
use Rattle.spec_service.specs.Handing.{Handed, IsAskedOver}

-- the request is what is asked over the connection, unless memory ran out
pub record AsksOver (handed : Handed) (request : Result rust.Request Fault) : Type 0 where
  pub asked : Result Request Fault
  pub is_asked : IsAskedOver handed asked
  pub tells : Tells request_of request asked
