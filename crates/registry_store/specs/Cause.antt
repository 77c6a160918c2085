-- Why a store refused a command, and why a file was not opened. This project's own.
use Rattle.std.specs.Prelude.{◌≡◌, ◌<◌, ◌+◌, ◌++◌, ◌∷◌, ℕ, Bool, false, IsTrue, List, length, Ok, Err}
use Rattle.sqlite_disk.specs.Disk.{MoreFaults}
use Rattle.line_journal.specs.Cause.{IsDisksFault}
use Rattle.line_journal.specs.Journal.{takes_lines}
use Rattle.line_journal.specs.Lines.{Line, lines_in}
use Rattle.line_journal.specs.declared.error.AppendError.{AppendError}
use Rattle.line_journal.specs.declared.error.AppendError.TheVariants as appends
use Rattle.line_journal.specs.declared.error.OpenError.{OpenError}
use Rattle.line_journal.specs.declared.error.OpenError.TheVariants as journals
use Rattle.line_journal.specs.declared.layout.TheConstants.{LONGEST}
use Rattle.registry_store.specs.Line.{HasCheck, line_of}
use Rattle.registry_store.specs.Reading.{IsNoCommand}
use Rattle.registry_store.specs.Store.{disk_of}
use Rattle.registry_store.specs.Stored.{Stored}
use Rattle.registry_store.specs.declared.fault.LineFault.{LineFault}
use Rattle.registry_store.specs.declared.fault.LineFault.TheVariants as faults_of_line
use Rattle.registry_store.specs.declared.store_fault.OpenFault.{OpenFault}
use Rattle.registry_store.specs.declared.store_fault.OpenFault.TheVariants as opens
use Rattle.registry_store.specs.declared.store_fault.StoreFault.{StoreFault}
use Rattle.registry_store.specs.declared.store_fault.StoreFault.TheVariants as stores
use Rattle.registry_store.specs.declared.store.CommandStore.{CommandStore}

-- why this command was refused, by the store before and after
abbrev pub HasCause : {D : Type 0} → (D → Bool) → (D → Bool) → (D → ℕ)
    → CommandStore D → CommandStore D → Stored → StoreFault → Type 0
HasCause is_usable is_mixing faults old new command stores.NoMemory = Unit {0}
HasCause is_usable is_mixing faults old new command stores.Closed = takes_lines is_usable old.journal ≡ false
HasCause is_usable is_mixing faults old new command stores.TooLong = LONGEST < length (line_of command)
HasCause is_usable is_mixing faults old new command (stores.Failed error) =
    IsDisksFault is_mixing faults (disk_of old) (disk_of new)

-- the refusal may close the store: any other leaves it open or closed, as it was
abbrev pub MayClose : StoreFault → Type 0
MayClose stores.NoMemory = ⊥
MayClose stores.Closed = ⊥
MayClose stores.TooLong = ⊥
MayClose (stores.Failed error) = Unit {0}

-- why a line was not read as a command
abbrev pub IsRefused : Line → LineFault → Type 0
IsRefused bytes faults_of_line.NoMemory = ⊥
IsRefused bytes faults_of_line.BadCheck = ¬ (HasCheck bytes)
IsRefused bytes faults_of_line.BadLine = HasCheck bytes × IsNoCommand bytes

-- the line of this number, from 1, is refused
pub record IsBadLine (lines : List Line) (number : ℕ) (fault : LineFault) : Type 0 where
  pub before : List Line
  pub bytes : Line
  pub after : List Line
  pub whole : lines ≡ before ++ bytes ∷ after
  pub place : number ≡ length before + 1
  pub refused : IsRefused bytes fault

-- why lines were not read as commands
abbrev pub HasReadCause : List Line → OpenFault → Type 0
HasReadCause lines opens.NoMemory = Unit {0}
HasReadCause lines (opens.Damaged damage) = ⊥
HasReadCause lines (opens.BadLine number fault) = IsBadLine lines number fault
HasReadCause lines (opens.Failed error) = ⊥

-- why a file was not opened, by its disk before and after
abbrev pub HasOpenCause : {D : Type 0} → (D → List ℕ) → (D → Bool) → (D → Bool) → (D → ℕ)
    → D → D → OpenFault → Type 0
HasOpenCause seen is_clean is_mixing faults old new opens.NoMemory = Unit {0}
HasOpenCause seen is_clean is_mixing faults old new (opens.Damaged damage) =
    IsTrue (is_clean new) → lines_in (seen old) ≡ Err damage
HasOpenCause seen is_clean is_mixing faults old new (opens.BadLine number fault) =
    IsTrue (is_clean new) → (lines : List Line) × (lines_in (seen old) ≡ Ok lines) × IsBadLine lines number fault
HasOpenCause seen is_clean is_mixing faults old new (opens.Failed error) = IsDisksFault is_mixing faults old new

-- the store says what its journal said; a command's line never has a newline
abbrev pub SaysSame : AppendError → StoreFault → Type 0
SaysSame appends.NoMemory fault = fault ≡ stores.NoMemory
SaysSame appends.Closed fault = fault ≡ stores.Closed
SaysSame appends.TooLong fault = fault ≡ stores.TooLong
SaysSame appends.HasNewline fault = ⊥
SaysSame (appends.Failed error) fault = fault ≡ stores.Failed error

-- what is said of a file that its journal did not open
abbrev pub open_fault : OpenError → OpenFault
open_fault journals.NoMemory = opens.NoMemory
open_fault (journals.Damaged damage) = opens.Damaged damage
open_fault (journals.Failed error) = opens.Failed error

-- what is said of a file whose line of this number, from 1, was not read
abbrev pub bad_line : ℕ → LineFault → OpenFault
bad_line number faults_of_line.NoMemory = opens.NoMemory
bad_line number faults_of_line.BadCheck = opens.BadLine number faults_of_line.BadCheck
bad_line number faults_of_line.BadLine = opens.BadLine number faults_of_line.BadLine
