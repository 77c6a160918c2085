-- The request that a value of the code is. This project's own.
use Rattle.std.specs.Prelude.{string_bytes}
use Rattle.spec_registry.specs.Command.{Command}
use Rattle.schema_registry.specs.Command.{command_of}
use Rattle.gateway_requests.specs.declared.request.Request as rust
use Rattle.gateway_requests.specs.declared.request.Request.TheVariants as requests
use Rattle.spec_service.specs.Request.{Request, Asks, Registers, AsksSchema, Transcodes}

abbrev pub request_of : rust.Request → Request
request_of (requests.Command command) = Asks (command_of command)
request_of (requests.Registration subject text) = Registers (string_bytes subject) (string_bytes text)
request_of (requests.Schema id) = AsksSchema id
request_of (requests.Transcoding reader message) = Transcodes reader message
