-- How a call of the service ends, and what it returns. This project's own.
use Rattle.std.specs.Prelude.{◌≡◌, ◌⊎◌, ℕ, List, [], Option, IfSome, Result, Ok, Err}
use Rattle.std.specs.Io.KnownBytes.{Keeps}
use Rattle.gateway_requests.specs.declared.read_error.ReadError.{ReadError}
use Rattle.gateway_requests.specs.declared.read_error.ReadError.TheVariants as reading
use Rattle.spec_registry.specs.Receipt.{Shown}
use Rattle.spec_service.specs.Answer.{Answer, Refused, answer_text, status_of_answer}
use Rattle.spec_service.specs.Status.{number_of}
use Rattle.spec_service.specs.declared.fault.Fault.{Fault}
use Rattle.spec_service.specs.declared.fault.Fault.TheVariants as faults
use Rattle.spec_service.specs.Asking.{IsAsked}
use Rattle.gateway_requests.specs.Steps.{Tells}
use Rattle.spec_service.specs.Request.{Request}
use Rattle.gateway_requests.specs.Request.{request_of}
use Rattle.gateway_requests.specs.declared.request.Request as rust
use Rattle.spec_service.specs.Evidence.{Evidence}
use Rattle.gateway_core.specs.declared.serve_error.ServeError.{ServeError}
use Rattle.gateway_core.specs.declared.serve_error.ServeError.TheVariants as serving
use Rattle.gateway_core.specs.declared.serve_error.TellError.{TellError}
use Rattle.gateway_core.specs.declared.serve_error.TellError.TheVariants as telling
use Rattle.spec_service.specs.declared.transcode_fault.TranscodeFault.{TranscodeFault}
use Rattle.spec_service.specs.Serving.{IsServed, IsCutShort}

-- how a failed reading ends the request
abbrev pub error_of : ReadError → TellError
error_of reading.Closed = telling.Closed
error_of reading.Failed = telling.ReadFault
error_of reading.NoMemory = telling.NoMemory

-- an error without the receipts that it carries
abbrev pub without_evidence : TellError → ServeError
without_evidence telling.Closed = serving.Closed
without_evidence telling.ReadFault = serving.ReadFault
without_evidence (telling.CutShort sent evidence) = serving.WriteFault sent
without_evidence telling.NoMemory = serving.NoMemory

-- the result is what the bytes ask, where they are known, unless memory ran out
abbrev pub TellsRequest : Option (List ℕ) → Result rust.Request Fault → Type 0
TellsRequest input result =
    (request : Result Request Fault) × Tells request_of result request
    × IfSome input (λ bytes. IsAsked bytes request)

-- ---- for private clauses

-- the result is what `asked` makes of the bytes that are left, where they are known, unless memory ran out
abbrev pub TellsAsked : Option (List ℕ) → (List ℕ → Result Request Fault) → Result rust.Request Fault
    → Type 0
TellsAsked left asked result =
    (request : Result Request Fault) × Tells request_of result request × IfSome left (λ more. request ≡ asked more)

-- the bytes and the status of an answer, or of the answer that memory ran out
abbrev pub IsTextOf : Answer → List ℕ → ℕ → Type 0
IsTextOf answer bytes status =
    (shown : Answer) × ((shown ≡ answer) ⊎ (shown ≡ Refused faults.NoMemory))
    × (bytes ≡ answer_text shown) × (status ≡ number_of (status_of_answer shown))

-- ---- how a call of the service ends, where a pair of schemas is refused as `refuses` says

module _ (refuses : Shown → Shown → TranscodeFault → Type 0) where
  -- nothing was written, or the beginning of an answer
  abbrev pub IsFault : List ℕ → (input old new : Option (List ℕ)) → TellError → Type 0
  IsFault cells input old new telling.Closed = IfSome input (λ bytes. bytes ≡ []) × Keeps old new
  IsFault cells input old new telling.ReadFault = Keeps old new
  IsFault cells input old new (telling.CutShort sent evidence) = IsCutShort refuses cells input old new sent evidence
  IsFault cells input old new telling.NoMemory = Keeps old new

  -- a whole answer was written, or the request ended in a fault, with some evidence that is not returned
  abbrev pub ServesSome : List ℕ → (input old new : Option (List ℕ)) → Result ℕ ServeError → Type 0
  ServesSome cells input old new (Ok status) = (evidence : Evidence) × IsServed refuses cells input old new status evidence
  ServesSome cells input old new (Err error) =
      (told : TellError) × (error ≡ without_evidence told) × IsFault cells input old new told
