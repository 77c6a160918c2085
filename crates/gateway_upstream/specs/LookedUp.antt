-- What was looked up for a request. This project's own.
use Rattle.std.specs.Prelude.{◌≡◌, ◌⊎◌, ℕ, nat_eq, if◌then◌else◌, List, [], ◌∷◌, Option, None, Some}
use Rattle.spec_service.specs.declared.fault.Fault.{Fault}
use Rattle.spec_service.specs.declared.fault.Fault.TheVariants as faults
use Rattle.spec_service.specs.declared.upstream_fault.UpstreamFault.TheVariants.{Busy}
use Rattle.upstream_schemas.specs.Asking.{IsWhyUnheld}
use Rattle.spec_service.specs.UpstreamNaming.{Names}

-- what a look-up of an id came to: why its schema is not held, or none where it is
pub record LookUp : Type 0 where
  pub id : ℕ
  pub fault : Option Fault

-- the names of the cells that threads share, and the look-ups in their order
pub record LookedUp : Type 0 where
  pub names : Names
  pub looks : List LookUp

-- the look-ups of a first and a second, if there are
abbrev pub looks_of : Option LookUp → Option LookUp → List LookUp
looks_of None second = []
looks_of (Some first) None = first ∷ []
looks_of (Some first) (Some second) = first ∷ second ∷ []

-- with one more; a third takes the place of the second
abbrev pub with_look : List LookUp → LookUp → List LookUp
with_look [] look = look ∷ []
with_look (first ∷ others) look = first ∷ look ∷ []

-- what the first look-up of the id came to; none where it was not looked up
abbrev pub told_of : List LookUp → ℕ → Option (Option Fault)
told_of [] id = None
told_of (look ∷ others) id = if nat_eq look.id id then Some look.fault else told_of others id

-- the look-up of the id came to this fault; or it was not looked up, since too many requests waited
abbrev pub IsWhyNotShown : (List ℕ → List ℕ → Type 0) → (ℕ → List ℕ → Type 0) → List LookUp → ℕ → Fault → Type 0
IsWhyNotShown heard kept looks id fault = IsWhyUnheld heard kept id fault
    × ((told_of looks id ≡ Some (Some fault)) ⊎ ((told_of looks id ≡ None) × (fault ≡ faults.Upstream Busy)))
