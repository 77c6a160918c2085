use Rattle.std.proofs.Common.{◌≡◌, ◌+◌, ◌≤◌, length}
use Rattle.spec_machine.specs.Assembling.{nothing, with_lines}
use Rattle.spec_machine.specs.ListingWords.{parts}
use Rattle.assembler.proofs.assembling.take_lines.Given as goal

abbrev pub invariant-loop-line : goal.invariant-loop-line
invariant-loop-line l = (with_lines l.at l.draft (parts 10 l.rest) ≡ with_lines 2 nothing (parts 10 l.text)) × (l.at + length l.rest ≤ 2 + length l.text)

abbrev pub decreases-loop-line : goal.decreases-loop-line
decreases-loop-line l = length l.rest
