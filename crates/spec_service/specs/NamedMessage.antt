-- A message of one id's schema, rewritten for another's, wherever the ids are from. This project's own.
use Rattle.std.specs.Prelude.{◌≡◌, ◌⊎◌, ℕ, List}
use Rattle.spec_registry.specs.Receipt.{Shown, IsReceiptOf}
use Rattle.spec_registry.specs.Envelope.{envelope, IsNoMessage}
use Rattle.spec_registry.specs.declared.envelope.EnvelopeError.{EnvelopeError}
use Rattle.spec_service.specs.Answer.{Answer}
use Rattle.spec_service.specs.declared.fault.Fault.{Fault}
use Rattle.spec_service.specs.declared.fault.Fault.TheVariants as faults
use Rattle.spec_service.specs.Evidence.{NamedSchema}
use Rattle.spec_service.specs.declared.transcode_fault.TranscodeFault.{TranscodeFault}
use Rattle.spec_service.specs.Outcomes.{TellsOutcome}

-- the reader that an id names was found, and no writer: the bytes are no message, or their id names no schema
abbrev pub HasNoWriter : (ℕ → Fault → Type 0) → List ℕ → Fault → Type 0
HasNoWriter refuses message fault =
    ((e : EnvelopeError) × IsNoMessage message e × (fault ≡ faults.BadEnvelope e))
    ⊎ ((writer : ℕ) × (payload : List ℕ) × (message ≡ envelope writer payload) × refuses writer fault)

-- the answer to the reader that an id names, from the message of the writer that the envelope's id names; `names` says
-- when what was seen shows that an id names the schema of a receipt
pub record TellsNamed (refuses : Shown → Shown → TranscodeFault → Type 0) {E : Type 0} (cells : List ℕ)
    (names : ℕ → Shown → E → Type 0) (id : ℕ) (message : List ℕ) (writer reader : NamedSchema E) (answer : Answer)
    : Type 0 where
  pub writer_id : ℕ
  pub payload : List ℕ
  pub message_is : message ≡ envelope writer_id payload
  pub is_writer : IsReceiptOf cells writer.receipt
  pub is_reader : IsReceiptOf cells reader.receipt
  pub writer_named : names writer_id writer.receipt writer.seen
  pub reader_named : names id reader.receipt reader.seen
  pub tells : TellsOutcome refuses writer.receipt reader.receipt id payload answer
