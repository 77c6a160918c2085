-- What the rows say of the path, in words of its segments.
use Rattle.std.proofs.Common.{◌∙◌, arith}
use Rattle.gateway_requests.proofs.RouteLaws.{found, each}
use Rattle.gateway_requests.proofs.route.Routes.find.Goals as goal

pub returns-clause-found : goal.returns-clause-found
returns-clause-found c = rw c.look_up.ensures (found c.args.path.now (λ i. omega (arith, c.type_inv.path i)))

pub returns-clause-each : goal.returns-clause-each
returns-clause-each c =
    λ route is. c.look_up.ensures ∙ each c.args.path.now (λ i. omega (arith, c.type_inv.path i)) route is
