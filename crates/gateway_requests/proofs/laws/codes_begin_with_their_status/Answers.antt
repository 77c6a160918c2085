-- Fault by fault.
use Rattle.std.proofs.Common.{◌≡◌, ◌⊎◌, ◌/◌, inl, inr, refl}
use Rattle.spec_service.specs.Fault.{code_of, status_of}
use Rattle.spec_service.specs.Status.{number_of}
use Rattle.spec_service.specs.declared.fault.Fault.{Fault}
use Rattle.spec_service.specs.declared.fault.Fault.TheVariants as faults
use Rattle.gateway_requests.proofs.laws.codes_begin_with_their_status.Goals as goal

begins : (fault : Fault) → (code_of fault ≡ number_of (status_of fault)) ⊎ (code_of fault / 100 ≡ number_of (status_of fault))
begins faults.BadRequest = inl refl
begins faults.NoRoute = inl refl
begins faults.NotAllowed = inl refl
begins faults.NoSubject = inr refl
begins faults.NoVersion = inr refl
begins faults.NoSchema = inr refl
begins faults.Incompatible = inl refl
begins faults.TooLarge = inr refl
begins faults.UnknownCoding = inl refl
begins faults.BadBody = inr refl
begins (faults.BadSchema error) = inr refl
begins faults.NotAvro = inr refl
begins faults.HasReferences = inr refl
begins faults.BadVersion = inr refl
begins faults.BadLevel = inr refl
begins (faults.Malformed kind at) = inr refl
begins (faults.Mismatch mismatch) = inr refl
begins faults.OutputTooLarge = inr refl
begins (faults.BadEnvelope error) = inr refl
begins faults.ProgramTooLarge = inr refl
begins faults.BadSubject = inr refl
begins faults.Clash = inr refl
begins faults.NoMemory = inr refl
begins faults.Full = inr refl
begins faults.NotFinished = inr refl
begins faults.NotStored = inr refl
begins faults.Elsewhere = inl refl
begins (faults.Upstream fault) = inr refl

pub returns : goal.returns
returns c = begins
