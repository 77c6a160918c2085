-- What is answered where another registry names the schemas: messages are rewritten and texts shown; all else is that
-- registry's to answer. This project's own.
use Rattle.std.specs.Prelude.{◌≡◌, ◌⊎◌, ℕ, List, Option, None, Some, IfSome, Result, Ok, Err}
use Rattle.serde_json.specs.Written.{compact_text}
use Rattle.spec_registry.specs.Receipt.{Shown, IsReceiptOf}
use Rattle.spec_service.specs.Answer.{Answer, Replied, Refused, answer_text, status_of_answer}
use Rattle.spec_service.specs.Replies.{schema_data}
use Rattle.spec_service.specs.Status.{number_of}
use Rattle.spec_service.specs.declared.fault.Fault.{Fault}
use Rattle.spec_service.specs.declared.fault.Fault.TheVariants as faults
use Rattle.spec_service.specs.Asking.{IsAsked}
use Rattle.spec_service.specs.Request as requests
use Rattle.spec_service.specs.Evidence.{Sight, NamedSchema}
use Rattle.spec_service.specs.declared.transcode_fault.TranscodeFault.{TranscodeFault}
use Rattle.spec_service.specs.NamedMessage.{HasNoWriter, TellsNamed}

-- a receipt of the registry, whose schema the id names
abbrev pub IsNamedBy : {E : Type 0} → List ℕ → (ℕ → Shown → E → Type 0) → ℕ → NamedSchema E → Type 0
IsNamedBy cells names id named = IsReceiptOf cells named.receipt × names id named.receipt named.seen

-- the id names no schema, as `unnamed` says, and nothing is shown
abbrev pub TellsUnnamed : {E : Type 0} → (ℕ → Fault → Type 0) → ℕ → Sight E → Answer → Type 0
TellsUnnamed unnamed id sight answer =
    (sight.reader ≡ None) × ((fault : Fault) × unnamed id fault × (answer ≡ Refused fault))

-- the text of the schema that the id names
pub record TellsTextOf {E : Type 0} (cells : List ℕ) (names : ℕ → Shown → E → Type 0) (id : ℕ) (sight : Sight E)
    (answer : Answer) : Type 0 where
  pub named : NamedSchema E
  pub sight_is : sight.reader ≡ Some named
  pub is_named : IsNamedBy cells names id named
  pub answer_is : IfSome named.receipt.schema (λ s. answer ≡ Replied (compact_text (schema_data s.text)))

-- Pairs of schemas are refused as `refuses` says; what was seen shows as `names` says that an id names the schema of a
-- receipt; and an id names none as `unnamed` says.
module _ (refuses : Shown → Shown → TranscodeFault → Type 0) {E : Type 0} (cells : List ℕ)
    (names : ℕ → Shown → E → Type 0) (unnamed : ℕ → Fault → Type 0) where
  -- the reader's schema was found, and no writer's
  pub record TellsUnpaired (id : ℕ) (message : List ℕ) (sight : Sight E) (answer : Answer) : Type 0 where
    pub reader : NamedSchema E
    pub sight_is : sight.reader ≡ Some reader
    pub is_named : IsNamedBy cells names id reader
    pub fault : Fault
    pub why : HasNoWriter unnamed message fault
    pub answer_is : answer ≡ Refused fault

  -- the message was rewritten
  pub record TellsPair (id : ℕ) (message : List ℕ) (sight : Sight E) (answer : Answer) : Type 0 where
    pub writer : NamedSchema E
    pub reader : NamedSchema E
    pub writer_is : sight.writer ≡ Some writer
    pub reader_is : sight.reader ≡ Some reader
    pub tells : TellsNamed refuses cells names id message writer reader answer

  -- what is answered to what is asked
  abbrev pub FulfilsNamed : requests.Request → Sight E → Answer → Type 0
  FulfilsNamed (requests.Asks c) sight answer = answer ≡ Refused faults.Elsewhere
  FulfilsNamed (requests.Registers subject text) sight answer = answer ≡ Refused faults.Elsewhere
  FulfilsNamed (requests.AsksSchema id) sight answer =
      TellsUnnamed unnamed id sight answer ⊎ TellsTextOf cells names id sight answer
  FulfilsNamed (requests.Transcodes id message) sight answer =
      TellsUnnamed unnamed id sight answer ⊎ TellsUnpaired id message sight answer ⊎ TellsPair id message sight answer

  -- what is answered to what is asked, or to the fault of the request
  abbrev pub AnswersNamed : Result requests.Request Fault → Sight E → Answer → Type 0
  AnswersNamed (Ok request) sight answer = FulfilsNamed request sight answer
  AnswersNamed (Err fault) sight answer = answer ≡ Refused fault

  -- an answer to what the bytes of a request ask, where they are known, and else to what some request asks; or that
  -- memory ran out
  pub record IsNamedAnswer (input : Option (List ℕ)) (sight : Sight E) (answer : Answer) : Type 0 where
    pub request : Result requests.Request Fault
    pub asked : IfSome input (λ bytes. IsAsked bytes request)
    pub answers : (answer ≡ Refused faults.NoMemory) ⊎ AnswersNamed request sight answer

  -- these are the bytes and the status of such an answer
  pub record IsNamedReply (input : Option (List ℕ)) (bytes : List ℕ) (status : ℕ) (sight : Sight E) : Type 0 where
    pub answer : Answer
    pub is_answer : IsNamedAnswer input sight answer
    pub status_is : status ≡ number_of (status_of_answer answer)
    pub bytes_are : bytes ≡ answer_text answer

  -- what is answered to what a request asks: that, or that memory ran out
  abbrev pub IsNamedAnswerTo : Result requests.Request Fault → Sight E → Answer → Type 0
  IsNamedAnswerTo request sight answer = (answer ≡ Refused faults.NoMemory) ⊎ AnswersNamed request sight answer

  -- these are the bytes and the status of such an answer
  pub record IsNamedReplyTo (request : Result requests.Request Fault) (bytes : List ℕ) (status : ℕ) (sight : Sight E)
      : Type 0 where
    pub answer : Answer
    pub is_answer : IsNamedAnswerTo request sight answer
    pub status_is : status ≡ number_of (status_of_answer answer)
    pub bytes_are : bytes ≡ answer_text answer
