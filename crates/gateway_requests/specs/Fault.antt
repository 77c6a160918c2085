-- The codes, statuses and texts of faults (Confluent Schema Registry API, "Errors"; 41301, those from 42250 on and 501
-- are this project's own, and so are the texts).
use Rattle.std.specs.Prelude.{◌≡◌, ◌⊎◌, ◌/◌}
use Rattle.spec_service.specs.declared.fault.Fault.{Fault}
use Rattle.spec_service.specs.declared.fault.Fault.TheVariants as faults
use Rattle.spec_service.specs.Status.{number_of}
use Rattle.spec_service.specs.Fault.{code_of, status_of}

-- a code is its status, or its status followed by two digits
abbrev pub CodesBeginWithTheirStatus : Type 0
CodesBeginWithTheirStatus = (fault : Fault)
    → (code_of fault ≡ number_of (status_of fault)) ⊎ (code_of fault / 100 ≡ number_of (status_of fault))

-- for a private clause: its text has no parts
abbrev pub HasFixedText : Fault → Type 0
HasFixedText (faults.BadSchema error) = ⊥
HasFixedText (faults.Malformed kind at) = ⊥
HasFixedText (faults.Mismatch mismatch) = ⊥
HasFixedText (faults.BadEnvelope error) = ⊥
HasFixedText (faults.Upstream fault) = ⊥
HasFixedText fault = Unit {0}
