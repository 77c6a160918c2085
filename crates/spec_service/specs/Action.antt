-- What a method asks for at a route (Confluent Schema Registry API; `/transcode` is this project's own).
use Rattle.std.specs.Prelude.{ℕ, List, Option, Some, None, codes, if◌then◌else◌}
use Rattle.std.specs.Str.{bytes_eq}
use Rattle.spec_service.specs.declared.route.Route.{Route}
use Rattle.spec_service.specs.declared.route.Route.TheVariants as routes
use Rattle.spec_service.specs.declared.action.Action.{Action}
use Rattle.spec_service.specs.declared.action.Action.TheVariants as actions

-- this action for one method alone
abbrev pub only : List ℕ → List ℕ → Action → Option Action
only method wanted action = if bytes_eq method wanted then Some action else None

-- one action for GET, another for another method
abbrev pub either : List ℕ → Action → List ℕ → Action → Option Action
either method shown other changed =
    if bytes_eq method (codes "GET") then Some shown else only method other changed

abbrev pub action_of : Route → List ℕ → Option Action
action_of routes.Subjects method = only method (codes "GET") actions.ListSubjects
action_of routes.Subject method = only method (codes "POST") actions.Lookup
action_of routes.Versions method = either method actions.ListVersions (codes "POST") actions.Register
action_of routes.Version method = only method (codes "GET") actions.ShowVersion
action_of routes.Schema method = only method (codes "GET") actions.ShowSchema
action_of routes.Compatibility method = only method (codes "POST") actions.Check
action_of routes.Config method = either method actions.ShowLevel (codes "PUT") actions.SetLevel
action_of routes.SubjectConfig method = either method actions.ShowSubjectLevel (codes "PUT") actions.SetSubjectLevel
action_of routes.Transcode method = only method (codes "POST") actions.Transcode
