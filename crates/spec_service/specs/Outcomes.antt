-- What is answered of a payload between two schemas. All of this is this project's own.
use Rattle.std.specs.Prelude.{◌≡◌, ◌⊎◌, ℕ, List, IfSome}
use Rattle.spec_avro.specs.Outcome.{Outcome, Done, Mismatched, Malformed, OutputTooLarge}
use Rattle.spec_avro.specs.PayloadOutcome.{IsOutcome}
use Rattle.spec_registry.specs.Receipt.{Shown}
use Rattle.spec_registry.specs.Envelope.{envelope}
use Rattle.spec_service.specs.Answer.{Answer, Rewritten, Refused}
use Rattle.spec_service.specs.declared.fault.Fault.{Fault}
use Rattle.spec_service.specs.declared.fault.Fault.TheVariants as faults
use Rattle.spec_sessions.specs.declared.publish_error.PublishError.TheVariants as programs
use Rattle.spec_service.specs.declared.transcode_fault.TranscodeFault.{TranscodeFault}
use Rattle.spec_service.specs.declared.transcode_fault.TranscodeFault.TheVariants as transcoding

-- the message or the fault that an outcome is answered with
abbrev pub answer_of_outcome : ℕ → Outcome → Answer
answer_of_outcome id (Done bytes) = Rewritten (envelope id bytes)
answer_of_outcome id (Mismatched mismatch) = Refused (faults.Mismatch mismatch)
answer_of_outcome id (Malformed kind at) = Refused (faults.Malformed kind at)
answer_of_outcome id OutputTooLarge = Refused faults.OutputTooLarge

abbrev pub fault_of_transcoding : TranscodeFault → Fault
fault_of_transcoding (transcoding.NoProgram programs.ProgramTooLarge) = faults.ProgramTooLarge
fault_of_transcoding (transcoding.NoProgram programs.Clash) = faults.Clash
fault_of_transcoding (transcoding.NoProgram programs.NoMemory) = faults.NoMemory
fault_of_transcoding transcoding.Full = faults.Full
fault_of_transcoding transcoding.NotFinished = faults.NotFinished
fault_of_transcoding transcoding.NoMemory = faults.NoMemory

-- the outcome of a payload between the schemas of two receipts, or why there is none, where a pair of schemas is
-- refused as `refuses` says
abbrev pub TellsOutcome : (Shown → Shown → TranscodeFault → Type 0) → Shown → Shown → ℕ → List ℕ → Answer → Type 0
TellsOutcome refuses writer reader id payload answer =
    (IfSome writer.schema (λ w. IfSome reader.schema (λ r.
    (outcome : Outcome) × IsOutcome w.nodes r.nodes payload outcome × (answer ≡ answer_of_outcome id outcome))))
    ⊎ ((fault : TranscodeFault) × refuses writer reader fault × (answer ≡ Refused (fault_of_transcoding fault)))
