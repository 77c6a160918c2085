-- Which route some paths have.
use Rattle.std.proofs.Common.{◌≡◌, ◌∙◌, ℕ, List, true, Some, None, codes, refl, arith}
use Rattle.matchit.proofs.OnLiterals.{matchit_on_literals}
use Rattle.gateway_requests.specs.Paths.{IsPathOf, IsSegment, subject, versions, version, subject_config}
use Rattle.spec_service.specs.Route.{route_of}
use Rattle.spec_service.specs.declared.route.Route.{Route}
use Rattle.spec_service.specs.declared.route.Route.TheVariants.{Subject, Version, Versions, SubjectConfig}
use Rattle.gateway_requests.proofs.Each.{path-leads}
use Rattle.gateway_requests.proofs.Found.{is_text, text-tested}
use Rattle.gateway_requests.proofs.Table.{route_of-table}

leads : (route : Route) (path : List ℕ) → IsPathOf route path → is_text path ≡ true → route_of path ≡ Some route
leads route path is text = route_of-table path ∙ path-leads route path is (text-tested path text)

orders : IsSegment (codes "orders")
orders = record { some = omega arith; no_slash = tt }

pub latest : route_of (codes "/subjects/orders/versions/latest") ≡ Some Version
latest =
    leads Version (codes "/subjects/orders/versions/latest")
    (version (codes "orders") (codes "latest") orders (record { some = omega arith; no_slash = tt })) refl

pub config_of_subject : route_of (codes "/config/orders") ≡ Some SubjectConfig
config_of_subject = leads SubjectConfig (codes "/config/orders") (subject_config (codes "orders") orders) refl

-- a subject may have the name that another segment has
named_versions : IsSegment (codes "versions")
named_versions = record { some = omega arith; no_slash = tt }

pub subject_named_versions : route_of (codes "/subjects/versions") ≡ Some Subject
subject_named_versions = leads Subject (codes "/subjects/versions") (subject (codes "versions") named_versions) refl

pub versions_of_versions : route_of (codes "/subjects/versions/versions") ≡ Some Versions
versions_of_versions =
    leads Versions (codes "/subjects/versions/versions") (versions (codes "versions") named_versions) refl

-- a segment is not empty
pub no_subject : route_of (codes "/subjects/") ≡ None
unfolding matchit_on_literals
no_subject = refl

pub empty_subject : route_of (codes "/subjects//versions") ≡ None
unfolding matchit_on_literals
empty_subject = refl

-- a slash at the end is one too many
pub slash_after_id : route_of (codes "/schemas/ids/1/") ≡ None
unfolding matchit_on_literals
slash_after_id = refl

pub whole_address : route_of (codes "http://host/subjects") ≡ None
unfolding matchit_on_literals
whole_address = refl
