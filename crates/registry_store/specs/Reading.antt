-- When a line is read. This project's own.
use Rattle.std.specs.Prelude.{◌≡◌, ◌≢◌, List, ℕ, Result, MatchResult}
use Rattle.registry_store.specs.Stored.{Stored, MayBeStored}
use Rattle.registry_store.specs.Line.{line_of}
use Rattle.registry_store.specs.declared.fault.LineFault.{LineFault}
use Rattle.registry_store.specs.declared.fault.LineFault.TheVariants.{NoMemory}

-- a part was read as the fact says, unless memory ran out
abbrev pub ReadsAs : {T : Type 0} → Result T LineFault → (T → Type 0) → Type 0
ReadsAs result P = MatchResult result P (λ fault. fault ≡ NoMemory)

-- the line is that of no command that may be stored
abbrev pub IsNoCommand : List ℕ → Type 0
IsNoCommand line = (stored : Stored) → MayBeStored stored → line ≢ line_of stored
