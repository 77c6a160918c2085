-- The rows of the router, and the route of a path, as `matchit` has them (the routes: Confluent Schema Registry API;
-- `/transcode` is this project's own).
use Rattle.std.specs.Prelude.{ℕ, List, [], Option, Result, Ok, Err, codes, option_map}
use Rattle.matchit.specs.Rows.{RowsOf}
use Rattle.matchit.specs.Route.{Scan, parse_route}
use Rattle.matchit.specs.Router.{RouteOf, route_from}
use Rattle.matchit.specs.Order.{placed}
use Rattle.matchit.specs.Seek.{first}
use Rattle.matchit.specs.declared.error.InsertError.{InsertError}
use Rattle.spec_service.specs.declared.route.Route.{Route}
use Rattle.spec_service.specs.declared.route.Route.TheVariants.{Subjects, Subject, Versions, Version, Schema, Compatibility, Config, SubjectConfig, Transcode}

-- the rows with one more, of what a route's text reads as
abbrev pub with_read : Result Scan InsertError → Route → RowsOf (RouteOf Route) → RowsOf (RouteOf Route)
with_read (Ok read) route rows = placed (read.pattern, route_from read route) rows
with_read (Err why) route rows = rows

-- the rows with one more route, whose text names each parameter in braces
abbrev pub with_route : List ℕ → Route → RowsOf (RouteOf Route) → RowsOf (RouteOf Route)
with_route text route rows = with_read (parse_route text) route rows

-- all routes, the last first
abbrev pub all_routes : RowsOf (RouteOf Route)
all_routes =
    with_route (codes "/transcode/{id}") Transcode (
    with_route (codes "/config/{subject}") SubjectConfig (
    with_route (codes "/config") Config (
    with_route (codes "/compatibility/subjects/{subject}/versions/{version}") Compatibility (
    with_route (codes "/schemas/ids/{id}") Schema (
    with_route (codes "/subjects/{subject}/versions/{version}") Version (
    with_route (codes "/subjects/{subject}/versions") Versions (
    with_route (codes "/subjects/{subject}") Subject (
    with_route (codes "/subjects") Subjects []))))))))

-- the route that these rows give a path
abbrev pub route_in : RowsOf (RouteOf Route) → List ℕ → Option Route
route_in rows path = option_map (λ found. found.value) (first rows path)

-- the route of a path
abbrev pub route_of : List ℕ → Option Route
route_of path = route_in all_routes path
