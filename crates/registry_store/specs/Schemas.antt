-- What a store has of the schemas of an upstream registry. This project's own.
use Rattle.std.specs.Prelude.{◌≡◌, ◌≢◌, ◌+◌, ◌++◌, ◌∷◌, ℕ, Bool, IsTrue, List, length, map, string_bytes}
use Rattle.registry_store.specs.Cause as files
use Rattle.registry_store.specs.Store.{HasCommands}
use Rattle.registry_store.specs.Stored.{Registered, Stored}
use Rattle.registry_store.specs.declared.upstream_fault.UpstreamStoreFault.{UpstreamStoreFault}
use Rattle.registry_store.specs.declared.upstream_fault.UpstreamStoreFault.TheVariants as faults
use Rattle.registry_store.specs.declared.kept_schema.KeptSchema.{KeptSchema}

-- the schema, as registered under its id by the URL of the upstream registry as the subject
abbrev pub registration : List ℕ → KeptSchema → Stored
registration url schema = Registered schema.id url (string_bytes schema.text)

abbrev pub registrations : List ℕ → List KeptSchema → List Stored
registrations url schemas = map (λ s. registration url s) schemas

-- the command of this number, from 1, is no registration under the URL
pub record IsOther (url : List ℕ) (commands : List Stored) (number : ℕ) : Type 0 where
  pub before : List Stored
  pub command : Stored
  pub after : List Stored
  pub whole : commands ≡ before ++ command ∷ after
  pub place : number ≡ length before + 1
  pub other : (id : ℕ) (text : List ℕ) → command ≢ Registered id url text

-- why commands are not the schemas of the registry of the URL
abbrev pub HasReadCause : List ℕ → List Stored → UpstreamStoreFault → Type 0
HasReadCause url commands faults.NoMemory = Unit {0}
HasReadCause url commands (faults.File fault) = ⊥
HasReadCause url commands (faults.OtherRegistry number) = IsOther url commands number

-- why a file was not opened, by its disk before and after
abbrev pub HasOpenCause : {D : Type 0} → (D → List ℕ) → (D → Bool) → (D → Bool) → (D → ℕ)
    → List ℕ → D → D → UpstreamStoreFault → Type 0
HasOpenCause seen is_clean is_mixing failed url old new faults.NoMemory = Unit {0}
HasOpenCause seen is_clean is_mixing failed url old new (faults.File fault) =
    files.HasOpenCause seen is_clean is_mixing failed old new fault
HasOpenCause seen is_clean is_mixing failed url old new (faults.OtherRegistry number) =
    IsTrue (is_clean new) → (commands : List Stored) × HasCommands (seen old) commands × IsOther url commands number
