-- The route of a path and the paths of a route, both ways, for a text of bytes.
use Rattle.std.proofs.Common.{◌≡◌, ◌<◌, ◌∙◌, ℕ, suc, List, [], ◌∷◌, Option, Some, None, IfSome, get_or, sym}
use Rattle.matchit.specs.Level.{IsText}
use Rattle.matchit.specs.Seek.{first}
use Rattle.gateway_requests.specs.Paths.{IsPathOf}
use Rattle.spec_service.specs.Route.{route_of}
use Rattle.spec_service.specs.declared.route.Route.{Route}
use Rattle.gateway_requests.proofs.Each.{path-leads}
use Rattle.gateway_requests.proofs.Fits.{first-fits}
use Rattle.gateway_requests.proofs.Found.{path-of-fits}
use Rattle.gateway_requests.proofs.Table.{table, route_of-table}

is-text : (path : List ℕ) → ((i : ℕ) → get_or path i 0 < 256) → IsText path
is-text [] bytes = tt
is-text (b ∷ path) bytes = (bytes 0, is-text path (λ i. bytes (suc i)))

found-in : (answer : Option Route) (path : List ℕ) → IsText path → answer ≡ first table path
    → IfSome answer (λ route. IsPathOf route path)
found-in None path text e = tt
found-in (Some route) path text e = path-of-fits path route text (first-fits table path route (sym e))

-- a path has its route's form
pub found : (path : List ℕ) → ((i : ℕ) → get_or path i 0 < 256) → IfSome (route_of path) (λ route. IsPathOf route path)
found path bytes = found-in (route_of path) path (is-text path bytes) (route_of-table path)

-- a path of a route's form has the route
pub each : (path : List ℕ) → ((i : ℕ) → get_or path i 0 < 256) → (route : Route) → IsPathOf route path
    → route_of path ≡ Some route
each path bytes route is = route_of-table path ∙ path-leads route path is (is-text path bytes)
