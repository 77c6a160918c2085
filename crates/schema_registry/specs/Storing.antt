-- A store of commands in a file as what keeps the commands of a registry. This project's own.
use Rattle.std.specs.Prelude.{◌≢◌, ℕ, Bool, IsTrue, List, map}
use Rattle.registry_store.specs.Cause.{HasCause}
use Rattle.registry_store.specs.Store.{HasCommands, Keeps, Leaves}
use Rattle.registry_store.specs.declared.store.CommandStore.{CommandStore}
use Rattle.registry_store.specs.declared.store_fault.OpenFault.TheVariants as opening
use Rattle.registry_store.specs.declared.store_fault.StoreFault.{StoreFault}
use Rattle.registry_store.specs.declared.store_fault.StoreFault.TheVariants.{NoMemory}
use Rattle.schema_registry.specs.declared.kept_registry.opening.StartFault.{StartFault}
use Rattle.schema_registry.specs.declared.kept_registry.opening.StartFault.TheVariants.{File, Line}
use Rattle.spec_registry.specs.declared.refusal.Refusal.TheVariants as refusals
use Rattle.schema_registry.specs.declared.registry.replaying.ReplayFault.TheVariants.{Refused}
use Rattle.spec_registry.specs.Answers.{AreAccepted}
use Rattle.spec_registry.specs.Command.{Command}
use Rattle.schema_registry.specs.Keeping.{KeptCommand}
use Rattle.schema_registry.specs.Replaying.{stored_as, stored_in}

module _ {D : Type 0} where
  -- its file has these commands, and nothing else
  abbrev pub KeepsStored : (D → List ℕ) → (D → List ℕ → Type 0) → (D → Bool)
      → CommandStore D → List KeptCommand → Type 0
  KeepsStored seen may_leave is_clean store ks = Keeps seen may_leave is_clean store (map stored_as ks)

  -- a crash may leave a file of these
  abbrev pub LeavesStored : (D → List ℕ → Type 0) → (D → Bool) → CommandStore D → List KeptCommand → Type 0
  LeavesStored may_leave is_clean store left = Leaves may_leave is_clean store (map stored_as left)

  -- a crash may leave a file that is of no commands, though the disk's answers were true
  pub record Spoils (may_leave : D → List ℕ → Type 0) (is_clean : D → Bool) (store : CommandStore D) : Type 0 where
    pub clean : IsTrue (is_clean store.journal.disk)
    pub file : List ℕ
    pub left : may_leave store.journal.disk file
    pub none : (ks : List KeptCommand) → ¬ (HasCommands file (map stored_as ks))

  -- the store refused a command for a reason that is not want of memory
  abbrev pub FailsStored : (D → Bool) → (D → Bool) → (D → ℕ) → CommandStore D → CommandStore D → KeptCommand → Type 0
  FailsStored is_usable is_mixing faults old new k =
      (fault : StoreFault) × (fault ≢ NoMemory) × HasCause is_usable is_mixing faults old new (stored_as k) fault

-- ---- starting from a file

-- it says what is wrong with the file; memory and the disk may fail for any
abbrev pub IsOfFile : StartFault → Type 0
IsOfFile (File opening.NoMemory) = ⊥
IsOfFile (File (opening.Failed error)) = ⊥
IsOfFile (File fault) = Unit {0}
IsOfFile (Line line) = line.fault ≢ Refused refusals.NoMemory

-- the file is that of no registry: it has not what is kept of commands each of which was accepted in its turn
abbrev pub IsOfNoRegistry : List ℕ → Type 0
IsOfNoRegistry file = (commands : List Command) → AreAccepted commands → ¬ (HasCommands file (stored_in commands))
