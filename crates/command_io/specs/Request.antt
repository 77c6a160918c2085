-- The request that a value of the code is. This project's own.
use Rattle.spec_sessions.specs.Event.{Event}
use Rattle.session_core.specs.Event.{event_of}
use Rattle.command_io.specs.declared.request.Request as rust
use Rattle.command_io.specs.declared.request.Request.TheVariants as requests
use Rattle.spec_lines.specs.Request.{Request, Happen, NoLevel, Show, ListCode, TellResult}

-- what a value of the program asks for
abbrev pub request_of : rust.Request → Request
request_of (requests.Event event) = Happen (event_of event)
request_of (requests.NoLevel refusal) = NoLevel refusal
request_of (requests.Show session) = Show session
request_of (requests.List session) = ListCode session
request_of (requests.Result session) = TellResult session
