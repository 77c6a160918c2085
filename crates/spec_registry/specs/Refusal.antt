-- The names of refusals. This project's own.
use Rattle.std.specs.Prelude.{ℕ, List, codes}
use Rattle.spec_registry.specs.declared.refusal.KeepFault.{KeepFault}
use Rattle.spec_registry.specs.declared.refusal.KeepFault.TheVariants as faults
use Rattle.spec_registry.specs.declared.refusal.Refusal.{Refusal}
use Rattle.spec_registry.specs.declared.refusal.Refusal.TheVariants as refusals

abbrev pub refusal_name : Refusal → List ℕ
refusal_name refusals.BadSubject = codes "BadSubject"
refusal_name refusals.BadVersion = codes "BadVersion"
refusal_name (refusals.BadSchema error) = codes "BadSchema"
refusal_name refusals.BadLevel = codes "BadLevel"
refusal_name refusals.NoSubject = codes "NoSubject"
refusal_name refusals.NoVersion = codes "NoVersion"
refusal_name refusals.NoSchema = codes "NoSchema"
refusal_name refusals.Incompatible = codes "Incompatible"
refusal_name refusals.Full = codes "Full"
refusal_name refusals.Clash = codes "Clash"
refusal_name refusals.NotStored = codes "NotStored"
refusal_name refusals.NoMemory = codes "NoMemory"

-- the refusal of a command that was not kept
abbrev pub refusal_of_fault : KeepFault → Refusal
refusal_of_fault faults.NoMemory = refusals.NoMemory
refusal_of_fault faults.NotStored = refusals.NotStored
