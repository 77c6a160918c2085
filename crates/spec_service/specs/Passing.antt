-- An answer that is passed on to the server of a connection that stays. This project's own.
use Rattle.std.specs.Prelude.{Option}
use Rattle.httpdate.specs.declared.date.HttpDate.{HttpDate}
use Rattle.http_server.specs.History.{IsServed}
use Rattle.spec_service.specs.declared.answer_bytes.AnswerBytes.{AnswerBytes}
use Rattle.spec_service.specs.StreamAnswering.{AnswersNext, CallsFor, IsNext}
use Rattle.spec_service.specs.Persistent.{Persistent}
use Rattle.spec_service.specs.Preparing.{answer_of}
use Rattle.spec_service.specs.Stream.{Asked}

-- Over a connection that stays the server has made one call at most since, which the answer answers, and which is for
-- the next request, unless memory ran out for it.
pub record AnswersTheNext (bytes : AnswerBytes) (old new : Persistent) : Type 0 where
  pub date : Option HttpDate
  pub answers : AnswersNext (answer_of bytes date) old.history.calls new.history.calls
  pub own : (asked : Asked) → IsNext old asked → CallsFor asked old new
  pub served : ∥ IsServed new.config new.history ∥₁
