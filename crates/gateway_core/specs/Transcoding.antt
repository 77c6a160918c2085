-- The outcome of a payload between the schemas of two receipts, or why there is none. This project's own.
use Rattle.std.specs.Prelude.{List, ℕ, IfSome}
use Rattle.spec_avro.specs.Outcome.{outcome_of}
use Rattle.spec_avro.specs.declared.outcome.Outcome as rust
use Rattle.spec_avro.specs.PayloadOutcome.{IsOutcome}
use Rattle.spec_registry.specs.Receipt.{Shown}
use Rattle.spec_service.specs.declared.transcode_fault.TranscodeFault.{TranscodeFault}
use Rattle.spec_service.specs.declared.transcode_fault.TranscodeFault.TheVariants.{NoProgram, Full, NotFinished, NoMemory}

-- what becomes of a payload between the schemas of two receipts
abbrev pub HasOutcome : Shown → Shown → List ℕ → rust.Outcome → Type 0
HasOutcome writer reader payload outcome =
    IfSome writer.schema (λ w. IfSome reader.schema (λ r. IsOutcome w.nodes r.nodes payload (outcome_of outcome)))

-- why a pair has no outcome: what transcodes refuses it so; and where it did not wait for the end, the gate said no
abbrev pub IsWhyNone : (Shown → Shown → TranscodeFault → Type 0) → Type 0 → Shown → Shown → TranscodeFault → Type 0
IsWhyNone refuses said_no writer reader (NoProgram why) = refuses writer reader (NoProgram why)
IsWhyNone refuses said_no writer reader Full = refuses writer reader Full
IsWhyNone refuses said_no writer reader NotFinished = refuses writer reader NotFinished × said_no
IsWhyNone refuses said_no writer reader NoMemory = refuses writer reader NoMemory
