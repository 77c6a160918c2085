-- An answer with its fields and a content. This project's own, but for the fields (RFC 9110, sections 6.6.1 and 8.3).
use Rattle.std.specs.Prelude.{ℕ, List, [], ◌∷◌, Option, Some, None, codes}
use Rattle.http1.specs.Fields.{Header}
use Rattle.http_server.specs.Response.{IsResponse}
use Rattle.http_server.specs.declared.response.Response.{Response}
use Rattle.httpdate.specs.Date.{date_text}
use Rattle.httpdate.specs.declared.date.HttpDate.{HttpDate}
use Rattle.spec_service.specs.Answer.{content_of}
use Rattle.spec_service.specs.ContentType.{type_name}
use Rattle.spec_service.specs.Status.{number_of}
use Rattle.spec_service.specs.declared.answer_bytes.AnswerBytes.{AnswerBytes}
use Rattle.spec_service.specs.declared.content_type.ContentType.{ContentType}

pub record Answer : Type 0 where
  pub status : ℕ
  pub content_type : ContentType
  -- when it was made, where there is a clock
  pub date : Option HttpDate
  pub content : List ℕ

abbrev pub date_fields : Option HttpDate → List Header
date_fields None = []
date_fields (Some date) = (codes "date", date_text date) ∷ []

-- the response is the answer: its status, its type and date, and its content
abbrev pub IsPrepared : Answer → Response → Type 0
IsPrepared a response =
    IsResponse a.status ((codes "content-type", type_name a.content_type) ∷ date_fields a.date) a.content response

-- an answer of the gateway, made at a time
abbrev pub answer_of : AnswerBytes → Option HttpDate → Answer
answer_of bytes date = record {
  status = number_of bytes.status;
  content_type = bytes.content_type;
  date = date;
  content = content_of bytes;
}
