-- The rows of the router, and the route of a path, as `matchit` has them. `Paths` says the same by segments.
use Rattle.std.specs.Prelude.{◌≡◌, None, Result, Ok, Err}
use Rattle.matchit.specs.Rows.{RowsOf}
use Rattle.matchit.specs.Route.{Scan}
use Rattle.matchit.specs.Router.{RouteOf, nearest}
use Rattle.matchit.specs.declared.error.InsertError.{InsertError}
use Rattle.spec_service.specs.declared.route.Route.{Route}

-- a route's text reads well, and no row is in its way
abbrev pub IsFree : Result Scan InsertError → RowsOf (RouteOf Route) → Type 0
IsFree (Ok read) rows = nearest read.pattern rows ≡ None
IsFree (Err why) rows = ⊥
