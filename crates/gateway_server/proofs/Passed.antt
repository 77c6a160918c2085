-- An answer that was passed on, unless memory ran out.
use Rattle.std.proofs.Common.{OnOk, Option, Result, Ok, Err}
use Rattle.std.specs.declared.alloc.AllocError.{AllocError}
use Rattle.httpdate.specs.declared.date.HttpDate.{HttpDate}
use Rattle.http_server.specs.History.{IsServed}
use Rattle.spec_service.specs.declared.answer_bytes.AnswerBytes.{AnswerBytes}
use Rattle.spec_service.specs.StreamAnswering.{AnswersNext, CallsFor, IsNext}
use Rattle.spec_service.specs.Persistent.{Persistent}
use Rattle.spec_service.specs.Preparing.{answer_of}
use Rattle.spec_service.specs.Stream.{Asked}
use Rattle.spec_service.specs.Passing.{AnswersTheNext}

pub passed : (result : Result (Unit {0}) AllocError) (bytes : AnswerBytes) (date : Option HttpDate) (old new : Persistent)
    → OnOk result (AnswersNext (answer_of bytes date) old.history.calls new.history.calls)
    → OnOk result ((asked : Asked) → IsNext old asked → CallsFor asked old new)
    → OnOk result ∥ IsServed new.config new.history ∥₁ → OnOk result (AnswersTheNext bytes old new)
passed (Ok _) bytes date old new answers own served =
    record { date = date; answers = answers; own = own; served = served }
passed (Err _) bytes date old new answers own served = tt
