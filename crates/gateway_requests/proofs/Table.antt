-- The rows of the router with no more than their patterns and routes.
use Rattle.std.proofs.Common.{◌≡◌, ◌++◌, ◌∙◌, List, [], ◌∷◌, codes, refl, ap, ℕ}
use Rattle.matchit.specs.Rows.{RowsOf, param_token}
use Rattle.matchit.specs.Router.{RouteOf}
use Rattle.matchit.specs.Seek.{first}
use Rattle.matchit.proofs.OnLiterals.{matchit_on_literals}
use Rattle.spec_service.specs.Route.{all_routes, route_of}
use Rattle.spec_service.specs.declared.route.Route.{Route}
use Rattle.spec_service.specs.declared.route.Route.TheVariants.{Subjects, Subject, Versions, Version, Schema, Compatibility, Config, SubjectConfig, Transcode}
use Rattle.gateway_requests.proofs.Keys.{with_keys, seek-keys}

-- a parameter
abbrev pub any : List ℕ
any = param_token ∷ []

-- each pattern with its route, in the order of the rows
abbrev pub table : RowsOf Route
table =
    (codes "/compatibility/subjects/" ++ (any ++ (codes "/versions/" ++ any)), Compatibility)
    ∷ (codes "/config/" ++ any, SubjectConfig)
    ∷ (codes "/config", Config)
    ∷ (codes "/schemas/ids/" ++ any, Schema)
    ∷ (codes "/subjects/" ++ (any ++ (codes "/versions/" ++ any)), Version)
    ∷ (codes "/subjects/" ++ (any ++ codes "/versions"), Versions)
    ∷ (codes "/subjects/" ++ any, Subject)
    ∷ (codes "/subjects", Subjects)
    ∷ (codes "/transcode/" ++ any, Transcode)
    ∷ []

value_of : RouteOf Route → Route
value_of found = found.value

table-is : with_keys value_of all_routes ≡ table
unfolding matchit_on_literals value_of
table-is = refl

pub route_of-table : (path : List ℕ) → route_of path ≡ first table path
unfolding value_of
route_of-table path = seek-keys value_of 0 all_routes path ∙ ap (λ rs. first rs path) table-is
