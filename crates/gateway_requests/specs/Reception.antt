-- What a request asks whose bytes come one part after another. This project's own, but for what bytes ask.
use Rattle.std.specs.Prelude.{ℕ, Bool, List, ◌++◌, Result}
use Rattle.spec_service.specs.declared.fault.Fault.{Fault}
use Rattle.spec_service.specs.Asking.{IsAsked}
use Rattle.spec_service.specs.Request.{Request}
use Rattle.gateway_requests.specs.Request.{request_of}
use Rattle.gateway_requests.specs.Steps.{Tells}
use Rattle.gateway_requests.specs.declared.request.Request as rust

-- the bytes of a request that have come, and whether no more are needed
pub record Received : Type 0 where
  pub bytes : List ℕ
  pub is_whole : Bool

-- the result is what the bytes ask, unless memory ran out
abbrev pub TellsWhole : List ℕ → Result rust.Request Fault → Type 0
TellsWhole bytes result = (request : Result Request Fault) × Tells request_of result request × IsAsked bytes request

-- the result is what the bytes ask, whatever bytes follow, unless memory ran out
abbrev pub TellsEach : List ℕ → Result rust.Request Fault → Type 0
TellsEach bytes result = (more : List ℕ) → TellsWhole (bytes ++ more) result
