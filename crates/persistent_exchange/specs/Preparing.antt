-- An answer with its fields and a content. This project's own, but for the fields (RFC 9110, sections 6.6.1 and 8.3).
use Rattle.std.specs.Prelude.{◌≡◌, ℕ, Bool, true, false, List}
use Rattle.http.specs.declared.request.Request.{Request}
use Rattle.http_server.specs.declared.response.Response.{Response}
use Rattle.spec_service.specs.Preparing.{Answer, IsPrepared}

-- an answer that is given once, and whether it was given
pub record AnswerOnce : Type 0 where
  pub answer : Answer
  pub is_used : Bool

-- the answer was given to a request, for the first time
pub record AnswersOnce (old : AnswerOnce) (request : Request (List ℕ)) (response : Response) (new : AnswerOnce)
    : Type 0 where
  pub was_unused : old.is_used ≡ false
  pub is_prepared : IsPrepared old.answer response
  pub new_is : new ≡ record old { is_used = true }
