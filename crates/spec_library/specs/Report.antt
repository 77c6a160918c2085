-- What the library reports of a payload or a message: the outcome, or why there is none, and which bytes are then in
-- the caller's room. All of this is this project's own.
use Rattle.std.specs.Prelude.{◌≡◌, ◌≢◌, ◌≤◌, ◌<◌, ℕ, List, [], ◌++◌, length, take, Option, Some, None}
use Rattle.spec_avro.specs.Outcome.{Done, Mismatched, Malformed, OutputTooLarge}
use Rattle.spec_avro.specs.PayloadOutcome.{IsOutcome}
use Rattle.spec_avro.specs.Transcoding.{refusal}
use Rattle.spec_avro.specs.declared.transcode_error.TranscodeError.TheVariants as refusals
use Rattle.spec_registry.specs.Envelope.{IsNoMessage, envelope, prefix}
use Rattle.spec_library.specs.declared.report.Ids.{Ids}
use Rattle.spec_library.specs.declared.report.PayloadReport.{PayloadReport}
use Rattle.spec_library.specs.declared.report.PayloadReport.TheVariants as payloads
use Rattle.spec_library.specs.declared.report.Report.{Report}
use Rattle.spec_library.specs.declared.report.Report.TheVariants as reports
use Rattle.spec_library.specs.Pair.{Pair}

-- The outcome of a payload is these bytes, and these are the head and the bytes together.
pub record IsOutput (pair : Pair) (head payload whole : List ℕ) : Type 0 where
  pub output : List ℕ
  pub is_outcome : IsOutcome pair.writer pair.reader payload (Done output)
  pub is_whole : whole ≡ head ++ output

-- The payload's outcome, a head and its output at the room's front; or that both together do not fit, and how long they
-- are; or that the payload passes its limit; and nothing where memory ran out.
abbrev pub IsPayloadReport : Pair → List ℕ → List ℕ → List ℕ → PayloadReport → Type 0
IsPayloadReport pair head payload room (payloads.Done len) =
    (len ≤ length room) × IsOutput pair head payload (take len room)
IsPayloadReport pair head payload room (payloads.RoomTooSmall len) =
    (length room < len) × (whole : List ℕ) × IsOutput pair head payload whole × (length whole ≡ len)
IsPayloadReport pair head payload room (payloads.Mismatch m) = IsOutcome pair.writer pair.reader payload (Mismatched m)
IsPayloadReport pair head payload room (payloads.Malformed kind at) =
    IsOutcome pair.writer pair.reader payload (Malformed kind at)
IsPayloadReport pair head payload room payloads.OutputTooLarge =
    IsOutcome pair.writer pair.reader payload OutputTooLarge
IsPayloadReport pair head payload room payloads.PayloadTooLarge = refusal payload ≡ Some refusals.TooLarge
IsPayloadReport pair head payload room payloads.NoMemory = Unit {0}

-- what is reported of a payload to whoever holds the transcoder of a pair, or none
abbrev pub ReportsPayload : Option Pair → List ℕ → List ℕ → Report → Type 0
ReportsPayload (Some pair) payload room (reports.Payload report) = IsPayloadReport pair [] payload room report
ReportsPayload (Some pair) payload room _ = ⊥
ReportsPayload None payload room report = report ≡ reports.Closed

-- what is reported of a message: its payload's report, if it has the writer's id, the output as the reader's message
abbrev pub IsMessageReport : Pair → Ids → List ℕ → List ℕ → Report → Type 0
IsMessageReport pair ids message room (reports.Payload report) = (payload : List ℕ)
    × (message ≡ envelope ids.writer payload) × IsPayloadReport pair (prefix ids.reader) payload room report
IsMessageReport pair ids message room (reports.BadEnvelope error) = IsNoMessage message error
IsMessageReport pair ids message room (reports.OtherWriter id) = (payload : List ℕ)
    × (message ≡ envelope id payload) × (id ≢ ids.writer)
IsMessageReport pair ids message room reports.Closed = ⊥
IsMessageReport pair ids message room reports.OutOfRange = ⊥

abbrev pub ReportsMessage : Option Pair → Ids → List ℕ → List ℕ → Report → Type 0
ReportsMessage (Some pair) ids message room report = IsMessageReport pair ids message room report
ReportsMessage None ids message room report = report ≡ reports.Closed
