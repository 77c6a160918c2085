-- What is answered and written, from what is asked and returned.
use Rattle.std.proofs.Common.{◌≡◌, ◌≢◌, ◌⊎◌, ℕ, List, Option, Result, Err, sym, subst, inl, inr, ◌∙◌, ap}
use Rattle.spec_service.specs.Answer.{Answer, Refused}
use Rattle.spec_service.specs.declared.fault.Fault.{Fault}
use Rattle.spec_service.specs.declared.fault.Fault.TheVariants as faults
use Rattle.spec_service.specs.Evidence.{Evidence}
use Rattle.spec_service.specs.declared.transcode_fault.TranscodeFault.{TranscodeFault}
use Rattle.spec_registry.specs.Receipt.{Shown}
use Rattle.spec_service.specs.Request.{Request}
use Rattle.gateway_requests.specs.Request.{request_of}
use Rattle.gateway_requests.specs.Steps.{Tells}
use Rattle.gateway_requests.specs.declared.request.Request as rust
use Rattle.spec_service.specs.Answering.{Answers}
use Rattle.spec_service.specs.Serving.{IsAnswer, IsAnswerTo, IsReplied, IsReplyTo}
use Rattle.gateway_core.specs.Serving.{IsTextOf, TellsRequest}
use Rattle.gateway_core.proofs.Faults.{memory_or_another}

module _ (refuses : Shown → Shown → TranscodeFault → Type 0)
    (cells : List ℕ) (input : Option (List ℕ)) (evidence : Evidence) (answer : Answer) where
  -- another answer, of which the text was made
  pub answer_shown : (shown : Answer) → (shown ≡ answer) ⊎ (shown ≡ Refused faults.NoMemory) → IsAnswer refuses cells input evidence answer
      → IsAnswer refuses cells input evidence shown
  answer_shown shown (inl same) is = let P : Answer → Type 0 = λ x. IsAnswer refuses cells input evidence x in subst P (sym same) is
  answer_shown shown (inr memory) is = record { request = is.request; asked = is.asked; answers = inl memory }

  pub replied : (bytes : List ℕ) (status : ℕ) → IsAnswer refuses cells input evidence answer → IsTextOf answer bytes status
      → IsReplied refuses cells input bytes status evidence
  replied bytes status is text = record {
    answer = text.0;
    is_answer = answer_shown text.0 text.1 is;
    status_is = text.3;
    bytes_are = text.2;
  }

  -- the answer to a fault of the request
  fault_answers : (fault : Fault) → answer ≡ Refused fault → (request : Result Request Fault)
      → (fault ≢ faults.NoMemory → request ≡ Err fault) → (fault ≡ faults.NoMemory) ⊎ (fault ≢ faults.NoMemory)
      → (answer ≡ Refused faults.NoMemory) ⊎ Answers refuses cells request evidence answer
  fault_answers fault is request told (inl memory) = inl (is ∙ ap Refused memory)
  fault_answers fault is request told (inr another) = inr (rw (told another) is)

  pub fault_answered : (fault : Fault) (result : Result rust.Request Fault) → result ≡ Err fault
      → answer ≡ Refused fault → TellsRequest input result → IsAnswer refuses cells input evidence answer
  fault_answered fault result failed is told =
      let P : Result rust.Request Fault → Type 0 = λ r. Tells request_of r told.0 in
      record {
        request = told.0;
        asked = told.2;
        answers = fault_answers fault is told.0 (subst P failed told.1) (memory_or_another fault);
      }

  pub fault_told : (fault : Fault) (result : Result rust.Request Fault) → result ≡ Err fault → answer ≡ Refused fault
      → (request : Result Request Fault) → Tells request_of result request → IsAnswerTo refuses cells request evidence answer
  fault_told fault result failed is request told =
      let P : Result rust.Request Fault → Type 0 = λ r. Tells request_of r request in
      fault_answers fault is request (subst P failed told) (memory_or_another fault)

  -- another answer, of which the text was made
  reply_shown : (shown : Answer) (request : Result Request Fault) → (shown ≡ answer) ⊎ (shown ≡ Refused faults.NoMemory)
      → IsAnswerTo refuses cells request evidence answer → IsAnswerTo refuses cells request evidence shown
  reply_shown shown request (inl same) is =
      let P : Answer → Type 0 = λ x. IsAnswerTo refuses cells request evidence x in subst P (sym same) is
  reply_shown shown request (inr memory) is = inl memory

  pub reply_told : (request : Result Request Fault) (bytes : List ℕ) (status : ℕ)
      → IsAnswerTo refuses cells request evidence answer → IsTextOf answer bytes status
      → IsReplyTo refuses cells request bytes status evidence
  reply_told request bytes status is text = record {
    answer = text.0;
    is_answer = reply_shown text.0 request text.1 is;
    status_is = text.3;
    bytes_are = text.2;
  }
