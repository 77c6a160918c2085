-- What writing a datum answers. This project's own.
use Rattle.std.specs.Prelude.{◌+◌, Option, MatchOption, ◌≡◌, ◌≤◌, ◌<◌, ℕ, List, ◌++◌, length, Result, Ok, Err}
use Rattle.spec_avro.specs.Datum.{Datum}
use Rattle.spec_avro.specs.declared.limits.TheConstants.{MOST_OUTPUT}
use Rattle.avro_datum.specs.declared.writing.WriteError.{WriteError}
use Rattle.avro_datum.specs.declared.writing.WriteError.TheVariants.{TooLarge, NoMemory}
use Rattle.spec_avro.specs.Writing.{written}

-- what is left of some room after `len` bytes, if they fit
abbrev pub LeavesRoom : Option ℕ → ℕ → ℕ → Type 0
LeavesRoom result room len = MatchOption result (room < len) (λ left. left + len ≡ room)

-- what writing answers, and what it leaves of the bytes that were there
abbrev pub Writes : Result (Unit {0}) WriteError → Datum → List ℕ → List ℕ → Type 0
Writes (Ok u) d old new = (new ≡ old ++ written d) × (length (written d) ≤ MOST_OUTPUT)
Writes (Err TooLarge) d old new = (new ≡ old) × (MOST_OUTPUT < length (written d))
Writes (Err NoMemory) d old new = (new ≡ old) × (length (written d) ≤ MOST_OUTPUT)
