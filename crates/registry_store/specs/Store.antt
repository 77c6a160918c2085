-- How a store and its file go together. This project's own.
use Rattle.std.specs.Prelude.{◌≡◌, ◌⊎◌, ◌++◌, ◌∷◌, ◌<◌, [], ℕ, Bool, IsTrue, List, map, Some, Ok, ◌+◌}
use Rattle.std.specs.List.{AllByRecursion}
use Rattle.line_journal.specs.Journal.{IsAtRest}
use Rattle.line_journal.specs.Lines.{Line, lines_in}
use Rattle.registry_store.specs.Line.{line_of}
use Rattle.registry_store.specs.Stored.{MayBeStored, Stored, stored_of}
use Rattle.registry_store.specs.declared.store.CommandStore.{CommandStore}
use Rattle.registry_store.specs.declared.stored.StoredCommand.{StoredCommand}

-- the commands that values of the program say
abbrev pub commands_of : List StoredCommand → List Stored
commands_of values = map stored_of values

-- the lines of these commands
abbrev pub lines_for : List Stored → List Line
lines_for commands = map line_of commands

-- it takes commands: no write was left in doubt
abbrev pub is_open : {D : Type 0} → CommandStore D → Bool
is_open store = store.journal.is_open

-- the disk of its file
abbrev pub disk_of : {D : Type 0} → CommandStore D → D
disk_of store = store.journal.disk

-- the command that was added last may be taken back
abbrev pub MayTakeBack : {D : Type 0} → CommandStore D → Type 0
MayTakeBack store = (at : ℕ) × (store.journal.last ≡ Some at) × (at + 2 < store.journal.gate)

-- The file has the lines of exactly these commands, and all of it is on the disk. It is said of a disk whose answers
-- were true (`is_clean`), since no file is known by others.
pub record Keeps {D : Type 0} (seen : D → List ℕ) (may_leave : D → List ℕ → Type 0) (is_clean : D → Bool)
    (store : CommandStore D) (commands : List Stored) : Type 0 where
  pub may : AllByRecursion MayBeStored commands
  pub at_rest : IsTrue (is_clean (disk_of store)) → IsAtRest seen may_leave store.journal (lines_for commands)

-- the file has the lines of exactly these commands
pub record HasCommands (file : List ℕ) (commands : List Stored) : Type 0 where
  pub may : AllByRecursion MayBeStored commands
  pub lines : lines_in file ≡ Ok (lines_for commands)

-- a crash at this moment may leave a file of exactly these commands, and the disk's answers were true
pub record Leaves {D : Type 0} (may_leave : D → List ℕ → Type 0) (is_clean : D → Bool)
    (store : CommandStore D) (commands : List Stored) : Type 0 where
  pub clean : IsTrue (is_clean (disk_of store))
  pub file : List ℕ
  pub left : may_leave (disk_of store) file
  pub has : HasCommands file commands

-- each file that a crash may leave has these commands, without one more or with it
abbrev pub LeavesOneOf : {D : Type 0} → (D → List ℕ → Type 0) → (D → Bool)
    → CommandStore D → List Stored → Stored → Type 0
LeavesOneOf may_leave is_clean store commands command =
    IsTrue (is_clean (disk_of store)) → (file : List ℕ) → may_leave (disk_of store) file
    → HasCommands file commands ⊎ HasCommands file (commands ++ command ∷ [])

-- a crash leaves no file that it did not leave before, and the disk's answers were true if they are
abbrev pub LeavesNoMore : {D : Type 0} → (D → List ℕ → Type 0) → (D → Bool) → CommandStore D → CommandStore D → Type 0
LeavesNoMore may_leave is_clean old new =
    (IsTrue (is_clean new.journal.disk) → IsTrue (is_clean old.journal.disk))
    × ((file : List ℕ) → may_leave new.journal.disk file → may_leave old.journal.disk file)
