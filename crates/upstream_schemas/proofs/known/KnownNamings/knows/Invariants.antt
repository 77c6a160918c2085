-- What was found stays as it is.
use Rattle.std.proofs.Common.{◌≡◌}
use Rattle.upstream_schemas.proofs.known.KnownNamings.knows.Given as goal

abbrev pub invariant-loop-step : goal.invariant-loop-step
invariant-loop-step g l = l.found ≡ l.initial.found
