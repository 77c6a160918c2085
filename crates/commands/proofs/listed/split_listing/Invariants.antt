-- The lines so far are no line `end`.
use Rattle.std.proofs.Common.{length}
use Rattle.commands.proofs.UpToEnd.{IsPassed}
use Rattle.commands.proofs.listed.split_listing.Given as goal

abbrev pub invariant-loop-line : goal.invariant-loop-line
invariant-loop-line l = IsPassed l.input l.rest

abbrev pub decreases-loop-line : goal.decreases-loop-line
decreases-loop-line l = length l.rest
