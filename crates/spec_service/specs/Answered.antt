-- An answer that is to be sent over the connection that asked. This project's own.
use Rattle.std.specs.Prelude.{◌≡◌, ◌++◌, Option, None, Some, IsSomeAnd}
use Rattle.spec_service.specs.Sending.{Sent}
use Rattle.spec_service.specs.declared.answer_bytes.AnswerBytes.{AnswerBytes}
use Rattle.spec_service.specs.Persistent.{Persistent}
use Rattle.spec_service.specs.Handing.{Handed}
use Rattle.spec_service.specs.Passing.{AnswersTheNext}

-- what is to be sent over a connection: what its requests and answers have of it, where the connection stays, and else
-- the bytes of the answer
pub record Answered : Type 0 where
  pub stream : Option Persistent
  pub sending : Option Sent

-- over a connection that does not stay the answer is sent, of which nothing was sent yet
abbrev pub IsAnsweredOver : Option Persistent → AnswerBytes → Answered → Type 0
IsAnsweredOver None bytes answered =
    IsSomeAnd answered.sending (λ s. s ≡ record { bytes = bytes.front.items ++ bytes.rest.items; sent = 0 })
IsAnsweredOver (Some old) bytes answered = IsSomeAnd answered.stream (AnswersTheNext bytes old)

-- the answer to what a connection asked is to be sent over it
abbrev pub IsAnswered : Handed → AnswerBytes → Answered → Type 0
IsAnswered asking bytes answered = IsAnsweredOver asking.stream bytes answered
