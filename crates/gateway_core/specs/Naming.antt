-- A message of one id's schema, rewritten for another's, wherever the ids are from. This project's own.
use Rattle.std.specs.Prelude.{◌≡◌, ℕ, List}
use Rattle.spec_registry.specs.Receipt.{Shown, IsReceiptOf}
use Rattle.spec_registry.specs.Envelope.{envelope}
use Rattle.spec_service.specs.Evidence.{NamedSchema}

-- for private clauses: the message is that of a writer and a payload, and its id and the reader's name two schemas
pub record IsPaired {E : Type 0} (cells : List ℕ) (names : ℕ → Shown → E → Type 0) (id : ℕ) (message : List ℕ)
    (writer reader : NamedSchema E) (payload : List ℕ) : Type 0 where
  pub writer_id : ℕ
  pub message_is : message ≡ envelope writer_id payload
  pub is_writer : IsReceiptOf cells writer.receipt
  pub is_reader : IsReceiptOf cells reader.receipt
  pub writer_named : names writer_id writer.receipt writer.seen
  pub reader_named : names id reader.receipt reader.seen
