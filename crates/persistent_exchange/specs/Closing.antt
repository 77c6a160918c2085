-- The answer after which a connection is closed (RFC 9112, section 9.6): that of the mode without connections that
-- stay, with a date. This project's own.
use Rattle.std.specs.Prelude.{◌≡◌, ◌-◌, ℕ, Bool, true, false, List, [], ◌++◌, take, Option, Some, None, codes}
use Rattle.httpdate.specs.Date.{date_text}
use Rattle.httpdate.specs.declared.date.HttpDate.{HttpDate}
use Rattle.spec_service.specs.Answer.{Refused, answer_text, content_of}
use Rattle.spec_service.specs.declared.answer_bytes.AnswerBytes.{AnswerBytes}
use Rattle.spec_service.specs.declared.fault.Fault.{Fault}

-- the line of a date, where there is a clock (RFC 9110, section 6.6.1)
abbrev pub date_line : Option HttpDate → List ℕ
date_line None = []
date_line (Some date) = codes "date: " ++ date_text date ++ codes "\r\n"

-- the content that follows a head: none where HEAD asked (RFC 9110, section 9.3.2)
abbrev pub content_for : Bool → List ℕ → List ℕ
content_for true content = []
content_for false content = content

-- the lines of the head, the date, the empty line and the content
abbrev pub closing_text : AnswerBytes → Option HttpDate → Bool → List ℕ
closing_text answer date is_head =
    take (answer.head - 2) answer.front.items ++ date_line date ++ codes "\r\n"
    ++ content_for is_head (content_of answer)

-- the bytes are those of the fault's answer
pub record IsClosing (fault : Fault) (date : Option HttpDate) (is_head : Bool) (bytes : List ℕ) : Type 0 where
  pub answer : AnswerBytes
  pub is_answer : answer.front.items ++ answer.rest.items ≡ answer_text (Refused fault)
  pub bytes_are : bytes ≡ closing_text answer date is_head
