-- The bytes and the status of an answer that rests on the schemas of another registry.
use Rattle.std.proofs.Common.{◌≡◌, ◌⊎◌, ℕ, List, Option, Result, sym, subst, inl, inr}
use Rattle.spec_service.specs.Answer.{Answer, Refused}
use Rattle.spec_service.specs.declared.fault.Fault.{Fault}
use Rattle.spec_service.specs.declared.fault.Fault.TheVariants as faults
use Rattle.spec_service.specs.Evidence.{Sight}
use Rattle.spec_service.specs.declared.transcode_fault.TranscodeFault.{TranscodeFault}
use Rattle.spec_registry.specs.Receipt.{Shown}
use Rattle.spec_service.specs.NamedServing.{IsNamedAnswer, IsNamedAnswerTo, IsNamedReply, IsNamedReplyTo}
use Rattle.spec_service.specs.Request.{Request}
use Rattle.gateway_core.specs.Serving.{IsTextOf}

module _ (refuses : Shown → Shown → TranscodeFault → Type 0) {E : Type 0} (cells : List ℕ)
    (names : ℕ → Shown → E → Type 0) (unnamed : ℕ → Fault → Type 0) (input : Option (List ℕ)) (sight : Sight E)
    (answer : Answer) where
  -- another answer, of which the text was made
  named_shown : (shown : Answer) → (shown ≡ answer) ⊎ (shown ≡ Refused faults.NoMemory)
      → IsNamedAnswer refuses cells names unnamed input sight answer
      → IsNamedAnswer refuses cells names unnamed input sight shown
  named_shown shown (inl same) is =
      let P : Answer → Type 0 = λ x. IsNamedAnswer refuses cells names unnamed input sight x in subst P (sym same) is
  named_shown shown (inr memory) is = record { request = is.request; asked = is.asked; answers = inl memory }

  pub named_reply : (bytes : List ℕ) (status : ℕ) → IsNamedAnswer refuses cells names unnamed input sight answer
      → IsTextOf answer bytes status → IsNamedReply refuses cells names unnamed input bytes status sight
  named_reply bytes status is text = record {
    answer = text.0;
    is_answer = named_shown text.0 text.1 is;
    status_is = text.3;
    bytes_are = text.2;
  }

  -- another answer, of which the text was made
  reply_shown : (shown : Answer) (request : Result Request Fault) → (shown ≡ answer) ⊎ (shown ≡ Refused faults.NoMemory)
      → IsNamedAnswerTo refuses cells names unnamed request sight answer
      → IsNamedAnswerTo refuses cells names unnamed request sight shown
  reply_shown shown request (inl same) is =
      let P : Answer → Type 0 = λ x. IsNamedAnswerTo refuses cells names unnamed request sight x in subst P (sym same) is
  reply_shown shown request (inr memory) is = inl memory

  pub named_told : (request : Result Request Fault) (bytes : List ℕ) (status : ℕ)
      → IsNamedAnswerTo refuses cells names unnamed request sight answer → IsTextOf answer bytes status
      → IsNamedReplyTo refuses cells names unnamed request bytes status sight
  named_told request bytes status is text = record {
    answer = text.0;
    is_answer = reply_shown text.0 request text.1 is;
    status_is = text.3;
    bytes_are = text.2;
  }
