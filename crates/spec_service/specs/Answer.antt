-- What is answered, and its bytes (RFC 9112, section 2.1; the types of content are this project's own).
use Rattle.std.specs.Prelude.{ℕ, List, ◌++◌, drop, length}
use Rattle.serde_json.specs.Written.{compact_text}
use Rattle.spec_service.specs.Fault.{status_of}
use Rattle.spec_service.specs.Head.{head_of}
use Rattle.spec_service.specs.Replies.{fault_data}
use Rattle.spec_service.specs.declared.fault.Fault.{Fault}
use Rattle.spec_service.specs.declared.status.Status.{Status}
use Rattle.spec_service.specs.declared.status.Status.TheVariants.{Ok}
use Rattle.spec_service.specs.declared.content_type.ContentType.{ContentType}
use Rattle.spec_service.specs.declared.content_type.ContentType.TheVariants.{Json, OctetStream}
use Rattle.spec_service.specs.declared.answer_bytes.AnswerBytes.{AnswerBytes}

-- what is answered, wherever its bytes lie in memory
pub data Answer : Type 0 where
  -- the JSON text of a reply
  Replied : List ℕ → Answer
  -- a message in the wire format
  Rewritten : List ℕ → Answer
  Refused : Fault → Answer

abbrev pub status_of_answer : Answer → Status
status_of_answer (Replied text) = Ok
status_of_answer (Rewritten message) = Ok
status_of_answer (Refused fault) = status_of fault

abbrev pub content_type_of : Answer → ContentType
content_type_of (Replied text) = Json
content_type_of (Rewritten message) = OctetStream
content_type_of (Refused fault) = Json

abbrev pub body_of : Answer → List ℕ
body_of (Replied text) = text
body_of (Rewritten message) = message
body_of (Refused fault) = compact_text (fault_data fault)

-- all bytes of an answer
abbrev pub answer_text : Answer → List ℕ
answer_text answer =
    head_of (status_of_answer answer) (content_type_of answer) (length (body_of answer)) ++ body_of answer

-- the body in the bytes of an answer
abbrev pub content_of : AnswerBytes → List ℕ
content_of bytes = drop bytes.head bytes.front.items ++ bytes.rest.items
