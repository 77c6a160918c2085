-- What a report says of a payload or a message, of the room that was given for the output, and of who holds the
-- transcoder. All of this is this project's own; the outcome of a payload is that of `resolver`, and a message is an
-- `envelope` of `wire_frames`.
use Rattle.std.specs.Prelude.{◌≡◌, ℕ, List, Err}
use Rattle.spec_avro.specs.Outcome.{outcome_of}
use Rattle.spec_avro.specs.declared.outcome.Outcome as rust
use Rattle.spec_avro.specs.PayloadOutcome.{IsOutcome}
use Rattle.spec_avro.specs.Transcoding.{Transcodes}
use Rattle.spec_avro.specs.declared.transcode_error.TranscodeError.{TranscodeError}
use Rattle.embedding.specs.declared.numbers.ReportNumbers.{ReportNumbers}
use Rattle.spec_library.specs.declared.report.PayloadReport.{PayloadReport}
use Rattle.spec_library.specs.declared.report.Report.{Report}
use Rattle.embedding.specs.Numbers.{numbers_of}
use Rattle.spec_library.specs.Pair.{Pair}
use Rattle.spec_library.specs.Report.{IsPayloadReport}

-- these numbers are those of a report of which something holds
abbrev pub Tells : (Report → Type 0) → ℕ → ReportNumbers → Type 0
Tells Holds status numbers =
    (report : Report) × Holds report × (numbers ≡ numbers_of report) × (status ≡ numbers.status)

-- for a private clause: what is reported where this is the outcome
abbrev pub TellsOutcome : rust.Outcome → List ℕ → List ℕ → PayloadReport → Type 0
TellsOutcome outcome head room report = (pair : Pair) (payload : List ℕ)
    → IsOutcome pair.writer pair.reader payload (outcome_of outcome) → IsPayloadReport pair head payload room report

-- for a private clause: what is reported where there is no outcome
abbrev pub TellsRefusal : TranscodeError → List ℕ → PayloadReport → Type 0
TellsRefusal error head report = (pair : Pair) (payload room : List ℕ)
    → Transcodes pair.writer pair.reader payload (Err error) → IsPayloadReport pair head payload room report
