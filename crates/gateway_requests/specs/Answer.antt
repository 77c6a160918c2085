-- What is answered, and its bytes (RFC 9112, section 2.1; the types of content are this project's own).
use Rattle.std.specs.Prelude.{string_bytes}
use Rattle.spec_registry.specs.Envelope.{envelope}
use Rattle.spec_service.specs.declared.fault.Fault.{Fault}
use Rattle.gateway_requests.specs.declared.answer.Answer as rust
use Rattle.gateway_requests.specs.declared.answer.Answer.TheVariants as answers
use Rattle.spec_service.specs.Answer.{Answer, Replied, Rewritten, Refused}

abbrev pub answer_of : rust.Answer → Answer
answer_of (answers.Reply text) = Replied (string_bytes text)
answer_of (answers.Message id payload) = Rewritten (envelope id payload.items)
answer_of (answers.Fault fault) = Refused fault
