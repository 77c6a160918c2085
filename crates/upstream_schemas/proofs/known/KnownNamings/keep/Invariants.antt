-- What was found stays as it is, and so does what is to be kept of it.
use Rattle.std.proofs.Common.{◌≡◌}
use Rattle.upstream_schemas.proofs.known.KnownNamings.keep.Given as goal

abbrev pub invariant-loop-step : goal.invariant-loop-step
invariant-loop-step g l = (l.found ≡ l.initial.found) × (l.naming ≡ l.initial.naming)
