-- Which schemas are looked up for a request. This project's own.
use Rattle.std.specs.Prelude.{◌≡◌, ℕ, None, Some, Result, Ok, Err}
use Rattle.spec_service.specs.declared.fault.Fault.{Fault}
use Rattle.spec_service.specs.Request.{Request, Asks, Registers, AsksSchema, Transcodes}
use Rattle.gateway_requests.specs.Request.{request_of}
use Rattle.gateway_requests.specs.declared.request.Request as rust
use Rattle.gateway_upstream.specs.declared.looking.Needed.{Needed}
use Rattle.wire_frames.specs.Envelope.{IsWriterOf}

-- no schema
abbrev pub NeedsNone : Needed → Type 0
NeedsNone needed = (needed.reader ≡ None) × (needed.writer ≡ None)

-- the schema that is asked for; of a message its reader, and the writer that the message names
abbrev pub NeedsFor : Request → Needed → Type 0
NeedsFor (Asks command) needed = NeedsNone needed
NeedsFor (Registers subject text) needed = NeedsNone needed
NeedsFor (AsksSchema id) needed = (needed.reader ≡ Some id) × (needed.writer ≡ None)
NeedsFor (Transcodes id message) needed = (needed.reader ≡ Some id)
    × IsWriterOf message needed.writer

-- the schemas of a request, and none where it is refused
abbrev pub Needs : Result rust.Request Fault → Needed → Type 0
Needs (Ok request) needed = NeedsFor (request_of request) needed
Needs (Err fault) needed = NeedsNone needed
