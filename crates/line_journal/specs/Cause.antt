-- Why a line is refused, and why a journal is closed. This project's own.
use Rattle.std.specs.Prelude.{◌≡◌, ◌⊎◌, ◌<◌, ℕ, Bool, false, length}
use Rattle.sqlite_disk.specs.Disk.{MoreFaults}
use Rattle.line_journal.specs.Lines.{Line, IsLine}
use Rattle.line_journal.specs.Journal.{takes_lines}
use Rattle.line_journal.specs.declared.error.AppendError.{AppendError}
use Rattle.line_journal.specs.declared.error.AppendError.TheVariants.{NoMemory, Closed, TooLong, HasNewline, Failed}
use Rattle.line_journal.specs.declared.journal.Journal.{Journal}
use Rattle.line_journal.specs.declared.layout.TheConstants.{LONGEST}

-- a call of the disk failed, or the disk may leave a byte that is neither old nor new
abbrev pub IsDisksFault : {D : Type 0} → (D → Bool) → (D → ℕ) → D → D → Type 0
IsDisksFault is_mixing faults old new = MoreFaults (faults old) (faults new) ⊎ (is_mixing new ≡ false)

-- why this line was refused, by the journal before and after
abbrev pub HasCause : {D : Type 0} → (D → Bool) → (D → Bool) → (D → ℕ)
    → Journal D → Journal D → Line → AppendError → Type 0
HasCause is_usable is_mixing faults old new line NoMemory = Unit {0}
HasCause is_usable is_mixing faults old new line Closed = takes_lines is_usable old ≡ false
HasCause is_usable is_mixing faults old new line TooLong = LONGEST < length line
HasCause is_usable is_mixing faults old new line HasNewline = ¬ IsLine line
HasCause is_usable is_mixing faults old new line (Failed error) = IsDisksFault is_mixing faults old.disk new.disk

-- the refusal may close the journal: any other leaves it open or closed, as it was
abbrev pub MayClose : AppendError → Type 0
MayClose NoMemory = ⊥
MayClose Closed = ⊥
MayClose TooLong = ⊥
MayClose HasNewline = ⊥
MayClose (Failed error) = Unit {0}
