-- What a run reads and writes. This project's own.
use Rattle.std.specs.Prelude.{ℕ, List, Option, IfSome}
use Rattle.std.specs.Io.KnownBytes.{Appends}
use Rattle.command_io.specs.Traffic.{Begins}
use Rattle.spec_lines.specs.Output.{IsOutput}
use Rattle.spec_lines.specs.declared.status.Status.{Status}
use Rattle.spec_lines.specs.declared.verb.Verb.{Verb}

-- where the input was known, the writer's contents grew by an output for it that has this status
abbrev pub Answers : Verb → Option (List ℕ) → Option (List ℕ) → Option (List ℕ) → Status → Type 0
Answers verb remaining old new status =
    IfSome remaining (λ input. (output : List ℕ) × IsOutput verb input output status × Appends old new output)

-- where the input was known, the writer's contents grew by a beginning of an output for it
abbrev pub BeginsToAnswer : Verb → Option (List ℕ) → Option (List ℕ) → Option (List ℕ) → Type 0
BeginsToAnswer verb remaining old new =
    IfSome remaining (λ input. (output : List ℕ) × (status : Status) × IsOutput verb input output status
    × Begins old new output)
