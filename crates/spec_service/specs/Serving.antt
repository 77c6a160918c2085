-- Which bytes answer a request, and which of them are written. All of this is this project's own.
use Rattle.std.specs.Prelude.{◌≡◌, ◌≤◌, ◌⊎◌, ℕ, List, length, take, Option, IfSome, Result}
use Rattle.std.specs.Io.KnownBytes.{Appends}
use Rattle.spec_registry.specs.Receipt.{Shown}
use Rattle.spec_service.specs.Answer.{Answer, Refused, answer_text, status_of_answer}
use Rattle.spec_service.specs.Status.{number_of}
use Rattle.spec_service.specs.declared.fault.Fault.{Fault}
use Rattle.spec_service.specs.declared.fault.Fault.TheVariants as faults
use Rattle.spec_service.specs.Asking.{IsAsked}
use Rattle.spec_service.specs.Request.{Request}
use Rattle.spec_service.specs.Evidence.{Evidence}
use Rattle.spec_service.specs.declared.transcode_fault.TranscodeFault.{TranscodeFault}
use Rattle.spec_service.specs.Answering.{Answers}

-- ---- one request, one answer, where a pair of schemas is refused as `refuses` says

module _ (refuses : Shown → Shown → TranscodeFault → Type 0) where
  -- an answer to what the bytes of a request ask, where they are known, and else to what some request asks; or that
  -- memory ran out
  pub record IsAnswer (cells : List ℕ) (input : Option (List ℕ)) (evidence : Evidence) (answer : Answer)
      : Type 0 where
    pub request : Result Request Fault
    pub asked : IfSome input (λ bytes. IsAsked bytes request)
    pub answers : (answer ≡ Refused faults.NoMemory) ⊎ Answers refuses cells request evidence answer

  -- these are the bytes and the status of such an answer
  pub record IsReplied (cells : List ℕ) (input : Option (List ℕ)) (bytes : List ℕ) (status : ℕ) (evidence : Evidence)
      : Type 0 where
    pub answer : Answer
    pub is_answer : IsAnswer cells input evidence answer
    pub status_is : status ≡ number_of (status_of_answer answer)
    pub bytes_are : bytes ≡ answer_text answer

  -- what is answered to what a request asks: that, or that memory ran out
  abbrev pub IsAnswerTo : List ℕ → Result Request Fault → Evidence → Answer → Type 0
  IsAnswerTo cells request evidence answer =
      (answer ≡ Refused faults.NoMemory) ⊎ Answers refuses cells request evidence answer

  -- these are the bytes and the status of such an answer
  pub record IsReplyTo (cells : List ℕ) (request : Result Request Fault) (bytes : List ℕ) (status : ℕ)
      (evidence : Evidence) : Type 0 where
    pub answer : Answer
    pub is_answer : IsAnswerTo cells request evidence answer
    pub status_is : status ≡ number_of (status_of_answer answer)
    pub bytes_are : bytes ≡ answer_text answer

  -- a whole answer was written, with this status
  pub record IsServed (cells : List ℕ) (input old new : Option (List ℕ)) (status : ℕ) (evidence : Evidence)
      : Type 0 where
    pub bytes : List ℕ
    pub replied : IsReplied cells input bytes status evidence
    pub written : Appends old new bytes

  -- the first bytes of an answer were written, as many as it says, and not more than the answer has
  pub record IsCutShort (cells : List ℕ) (input old new : Option (List ℕ)) (sent : ℕ) (evidence : Evidence)
      : Type 0 where
    pub bytes : List ℕ
    pub status : ℕ
    pub replied : IsReplied cells input bytes status evidence
    pub written : Appends old new (take sent bytes)
    pub few : sent ≤ length bytes
