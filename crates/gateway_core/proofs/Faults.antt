-- A fault is want of memory, or another.
use Rattle.std.proofs.Common.{◌≡◌, ◌≢◌, ◌⊎◌, inl, inr, refl, ap, Bool, true, false}
use Rattle.spec_service.specs.declared.fault.Fault.{Fault}
use Rattle.spec_service.specs.declared.fault.Fault.TheVariants as faults

abbrev is_memory : Fault → Bool
is_memory faults.NoMemory = true
is_memory fault = false

pub memory_or_another : (fault : Fault) → (fault ≡ faults.NoMemory) ⊎ (fault ≢ faults.NoMemory)
memory_or_another faults.NoMemory = inl refl
memory_or_another fault = inr (λ same. let no : false ≡ true = ap is_memory same in let bad : ⊥ = cc in bad)
