-- The reply to what is asked over a connection, given to it, unless memory ran out.
use Rattle.std.proofs.Common.{◌≡◌, ◌++◌, ℕ, List, IfOk, Result, Ok, Err, subst}
use Rattle.std.specs.declared.alloc.AllocError.{AllocError}
use Rattle.spec_service.specs.declared.answer_bytes.AnswerBytes.{AnswerBytes}
use Rattle.spec_service.specs.declared.fault.Fault.{Fault}
use Rattle.spec_service.specs.Request.{Request}
use Rattle.gateway_requests.specs.Request.{request_of}
use Rattle.gateway_requests.specs.Steps.{Tells}
use Rattle.gateway_requests.specs.declared.request.Request as rust
use Rattle.spec_service.specs.Answered.{Answered, IsAnswered}
use Rattle.spec_service.specs.Handing.{Handed}
use Rattle.gateway_server.specs.Handing.{AsksOver}
use Rattle.spec_service.specs.Replying.{IsRepliedOver}

pub replied_over : (replies : Result Request Fault → List ℕ → ℕ → Type 0) (asking connection : Handed)
    (request : Result rust.Request Fault) (bytes : AnswerBytes) (status : ℕ) (result : Result Answered AllocError)
    → connection ≡ asking → AsksOver asking request
    → ((asked : Result Request Fault) → Tells request_of request asked → replies asked (bytes.front.items ++ bytes.rest.items) status)
    → IfOk result (IsAnswered connection bytes) → IfOk result (IsRepliedOver replies asking)
replied_over replies asking connection request bytes status (Ok answered) same asks told is = record {
  asked = asks.asked;
  is_asked = asks.is_asked;
  bytes = bytes;
  status = status;
  replies_to = told asks.asked asks.tells;
  answers = subst (λ (h : Handed). IsAnswered h bytes answered) same is;
}
replied_over replies asking connection request bytes status (Err _) same asks told is = tt
