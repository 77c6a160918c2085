-- What the service may answer to what is asked, and the receipts that its answer rests on. All of this is this
-- project's own.
use Rattle.std.specs.Prelude.{◌≡◌, ◌⊎◌, ℕ, List, IfSome, Result, Ok, Err}
use Rattle.serde_json.specs.Written.{compact_text}
use Rattle.spec_registry.specs.Accepting.{compacted}
use Rattle.spec_registry.specs.Command.{Command}
use Rattle.spec_registry.specs.Reply.{Reply, EntryReply, IdReply, CompatibleReply, NumbersReply, NamesReply, TextReply, LevelReply}
use Rattle.spec_registry.specs.Shared.{IsSomeAnswer, IsSomeId}
use Rattle.spec_registry.specs.Receipt.{Shown, IsReceiptOf, ShowsText}
use Rattle.spec_registry.specs.declared.refusal.Refusal.{Refusal}
use Rattle.spec_service.specs.Answer.{Answer, Replied, Refused}
use Rattle.spec_service.specs.Replies.{id_data, schema_data}
use Rattle.spec_service.specs.declared.fault.Fault.{Fault}
use Rattle.spec_service.specs.declared.fault.Fault.TheVariants as faults
use Rattle.spec_service.specs.Request as requests
use Rattle.spec_service.specs.Evidence.{Evidence}
use Rattle.spec_service.specs.declared.evidence.Evidence.TheVariants as evidences
use Rattle.spec_service.specs.declared.transcode_fault.TranscodeFault.{TranscodeFault}
use Rattle.spec_service.specs.NamedMessage.{HasNoWriter, TellsNamed}
use Rattle.spec_service.specs.RegistryReplies.{answer_to, fault_of}

-- the schema of a receipt has this text
abbrev pub HasText : Shown → List ℕ → Type 0
HasText receipt text = IfSome receipt.schema (λ s. s.text ≡ text)

-- ---- replies of the registry

-- a schema's text beside an id is that of a receipt of the id
abbrev pub IsEvident : List ℕ → Result Reply Refusal → Evidence → Type 0
IsEvident cells (Ok (EntryReply subject version id text)) evidence =
    (receipt : Shown) × (evidence ≡ evidences.Shown receipt) × IsReceiptOf cells receipt × (receipt.id ≡ id)
    × HasText receipt text
IsEvident cells (Ok (IdReply id)) evidence = Unit {0}
IsEvident cells (Ok (CompatibleReply is_compatible)) evidence = Unit {0}
IsEvident cells (Ok (NumbersReply numbers)) evidence = Unit {0}
IsEvident cells (Ok (NamesReply names)) evidence = Unit {0}
IsEvident cells (Ok (TextReply text)) evidence = Unit {0}
IsEvident cells (Ok (LevelReply level)) evidence = Unit {0}
IsEvident cells (Err refusal) evidence = Unit {0}

-- what some state of the registry replies to the command
pub record TellsReply (cells : List ℕ) (c : Command) (evidence : Evidence) (answer : Answer) : Type 0 where
  pub result : Result Reply Refusal
  pub replied : IsSomeAnswer c result
  pub answer_is : answer ≡ answer_to c result
  pub evident : IsEvident cells result evidence

-- some state of the registry replies an entry, and no receipt of its id with its text was found
pub record TellsClash (c : Command) (answer : Answer) : Type 0 where
  pub subject : List ℕ
  pub version : ℕ
  pub id : ℕ
  pub text : List ℕ
  pub replied : IsSomeAnswer c (Ok (EntryReply subject version id text))
  pub answer_is : answer ≡ Refused faults.Clash

-- ---- registrations

-- the id of a receipt whose schema has the compact text of the text
abbrev pub TellsIdOf : List ℕ → List ℕ → Result (ℕ × Shown) Refusal → Evidence → Answer → Type 0
TellsIdOf cells text (Ok (id, receipt)) evidence answer =
    (evidence ≡ evidences.Shown receipt) × ShowsText cells (compacted text) receipt × (receipt.id ≡ id)
    × (answer ≡ Replied (compact_text (id_data id)))
TellsIdOf cells text (Err refusal) evidence answer = answer ≡ Refused (fault_of refusal)

-- what some state of the registry replies to the registration
pub record TellsId (cells : List ℕ) (subject text : List ℕ) (evidence : Evidence) (answer : Answer) : Type 0 where
  pub result : Result (ℕ × Shown) Refusal
  pub replied : IsSomeId subject text result
  pub tells : TellsIdOf cells text result evidence answer

-- ---- schemas with ids

-- the text of the schema of a receipt with the id
pub record TellsText (cells : List ℕ) (id : ℕ) (evidence : Evidence) (answer : Answer) : Type 0 where
  pub receipt : Shown
  pub evidence_is : evidence ≡ evidences.Shown receipt
  pub is_receipt : IsReceiptOf cells receipt
  pub id_is : receipt.id ≡ id
  pub answer_is : IfSome receipt.schema (λ s. answer ≡ Replied (compact_text (schema_data s.text)))

-- ---- messages that are not rewritten

-- the path's reader was found, whose receipt shows it, and no writer
pub record TellsNoWriter (cells : List ℕ) (id : ℕ) (message : List ℕ) (evidence : Evidence) (answer : Answer)
    : Type 0 where
  pub reader : Shown
  pub evidence_is : evidence ≡ evidences.Shown reader
  pub is_reader : IsReceiptOf cells reader
  pub reader_id : reader.id ≡ id
  pub fault : Fault
  pub why : HasNoWriter (λ writer f. f ≡ faults.NoSchema) message fault
  pub answer_is : answer ≡ Refused fault

-- the path's reader was not found
abbrev pub TellsNoReader : Evidence → Answer → Type 0
TellsNoReader evidence answer = (evidence ≡ evidences.Nothing) × (answer ≡ Refused faults.NoSchema)

-- ---- messages that are rewritten, or for which a pair of schemas is refused as `refuses` says

module _ (refuses : Shown → Shown → TranscodeFault → Type 0) where
  -- the message of the path's reader, from that of the envelope's writer, by the ids of this registry
  pub record TellsMessage (cells : List ℕ) (id : ℕ) (message : List ℕ) (evidence : Evidence) (answer : Answer)
      : Type 0 where
    pub writer : Shown
    pub reader : Shown
    pub evidence_is : evidence ≡ evidences.Pair writer reader
    pub tells : TellsNamed refuses cells (λ named receipt (_ : Unit {0}). receipt.id ≡ named) id message
        (record { receipt = writer; seen = tt }) (record { receipt = reader; seen = tt }) answer

  -- ---- all that may be asked

  abbrev pub Fulfils : List ℕ → requests.Request → Evidence → Answer → Type 0
  Fulfils cells (requests.Asks c) evidence answer = TellsReply cells c evidence answer ⊎ TellsClash c answer
  Fulfils cells (requests.Registers subject text) evidence answer = TellsId cells subject text evidence answer
  Fulfils cells (requests.AsksSchema id) evidence answer =
      (answer ≡ Refused faults.NoSchema) ⊎ TellsText cells id evidence answer
  Fulfils cells (requests.Transcodes id message) evidence answer =
      TellsNoReader evidence answer ⊎ TellsNoWriter cells id message evidence answer
      ⊎ TellsMessage cells id message evidence answer

  -- the answer to what is asked, or the fault of the request
  abbrev pub Answers : List ℕ → Result requests.Request Fault → Evidence → Answer → Type 0
  Answers cells (Ok request) evidence answer = Fulfils cells request evidence answer
  Answers cells (Err fault) evidence answer = answer ≡ Refused fault
