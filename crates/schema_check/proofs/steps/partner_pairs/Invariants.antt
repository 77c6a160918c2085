-- The pairs so far, before those of the routes that are left.
use Rattle.std.proofs.Common.{◌≡◌, ◌++◌, drop}
use Rattle.resolver.specs.NextPairs.{partner_pairs}
use Rattle.schema_check.proofs.steps.partner_pairs.Given as goal

abbrev pub invariant-loop-route : goal.invariant-loop-route
invariant-loop-route l = l.pairs.items ++ partner_pairs (drop l.route-index l.routes) ≡ partner_pairs l.routes
