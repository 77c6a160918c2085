use Rattle.std.proofs.Common.{◌≡◌, ◌+◌, ◌≤◌, ◌++◌, ℕ, List, length}
use Rattle.spec_lines.specs.Lines.{lines}
use Rattle.spec_registry.specs.Command.{Command}
use Rattle.store_commands.specs.Import.{Say}
use Rattle.store_commands.proofs.importing_lines.import_lines.Given as goal

abbrev pub decreases-loop-line : goal.decreases-loop-line
decreases-loop-line g l = length l.rest

-- the lines that were read, what they say, and that the numbers of both stay below that of the bytes
abbrev pub invariant-loop-line : goal.invariant-loop-line
invariant-loop-line g l = ((front : List (List ℕ)) × (said : List Command) × (lines l.input ≡ front ++ lines l.rest)
    × Say front said × (l.number ≡ length front) × (l.count ≡ length said) × (l.kept.registry ≡ l.initial.kept.registry ++ said))
    × (l.number + length l.rest ≤ length l.input) × (l.count ≤ l.number)
