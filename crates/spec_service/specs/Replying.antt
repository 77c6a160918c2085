-- The reply to what a connection asks, given to the connection that asks it. This project's own.
use Rattle.std.specs.Prelude.{◌++◌, ℕ, List, Result}
use Rattle.spec_registry.specs.Receipt.{Shown}
use Rattle.spec_service.specs.declared.answer_bytes.AnswerBytes.{AnswerBytes}
use Rattle.spec_service.specs.declared.fault.Fault.{Fault}
use Rattle.spec_service.specs.Request.{Request}
use Rattle.spec_service.specs.NamedServing.{IsNamedReplyTo}
use Rattle.spec_service.specs.Serving.{IsReplyTo}
use Rattle.spec_service.specs.Evidence.{Evidence, Sight}
use Rattle.spec_service.specs.declared.transcode_fault.TranscodeFault.{TranscodeFault}
use Rattle.spec_service.specs.Answered.{Answered, IsAnswered}
use Rattle.spec_service.specs.Handing.{Handed, IsAskedOver}

-- The answer is a reply, as `replies` says, to what is asked over the connection, and it is to be sent over it.
pub record IsRepliedOver (replies : Result Request Fault → List ℕ → ℕ → Type 0) (asking : Handed) (answered : Answered)
    : Type 0 where
  pub asked : Result Request Fault
  pub is_asked : IsAskedOver asking asked
  pub bytes : AnswerBytes
  pub status : ℕ
  pub replies_to : replies asked (bytes.front.items ++ bytes.rest.items) status
  pub answers : IsAnswered asking bytes answered

-- it is a reply by the registry with these cells, which refuses pairs of schemas as `refuses` says
abbrev pub IsRepliedTo : (Shown → Shown → TranscodeFault → Type 0) → List ℕ → Handed → Answered → Type 0
IsRepliedTo refuses cells = IsRepliedOver (λ asked bytes status.
    (evidence : Evidence) × IsReplyTo refuses cells asked bytes status evidence)

-- it is a reply by another registry, whose ids name schemas as `names` says, and none as `unnamed` says
abbrev pub IsRepliedByIds : {E : Type 0} → (Shown → Shown → TranscodeFault → Type 0) → List ℕ
    → (ℕ → Shown → E → Type 0) → (ℕ → Fault → Type 0) → Handed → Answered → Type 0
IsRepliedByIds {E} refuses cells names unnamed = IsRepliedOver (λ asked bytes status.
    (sight : Sight E) × IsNamedReplyTo refuses cells names unnamed asked bytes status sight)
