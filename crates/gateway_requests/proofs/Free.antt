-- No route is in the way of a later one.
use Rattle.std.proofs.Common.{[], codes, refl}
use Rattle.matchit.specs.Route.{parse_route}
use Rattle.matchit.specs.Router.{RouteOf}
use Rattle.matchit.specs.Rows.{RowsOf}
use Rattle.matchit.proofs.OnLiterals.{matchit_on_literals}
use Rattle.gateway_requests.specs.Route.{IsFree}
use Rattle.spec_service.specs.Route.{with_route}
use Rattle.spec_service.specs.declared.route.Route.{Route}
use Rattle.spec_service.specs.declared.route.Route.TheVariants.{Subjects, Subject, Versions, Version, Schema, Compatibility, Config, SubjectConfig}

pub subjects-free : IsFree (parse_route (codes "/subjects")) []
unfolding matchit_on_literals
subjects-free = refl

-- the rows so far
abbrev pub to_subjects : RowsOf (RouteOf Route)
to_subjects = with_route (codes "/subjects") Subjects []

pub subject-free : IsFree (parse_route (codes "/subjects/{subject}")) to_subjects
unfolding matchit_on_literals
subject-free = refl

-- the rows so far
abbrev pub to_subject : RowsOf (RouteOf Route)
to_subject = with_route (codes "/subjects/{subject}") Subject to_subjects

pub versions-free : IsFree (parse_route (codes "/subjects/{subject}/versions")) to_subject
unfolding matchit_on_literals
versions-free = refl

-- the rows so far
abbrev pub to_versions : RowsOf (RouteOf Route)
to_versions = with_route (codes "/subjects/{subject}/versions") Versions to_subject

pub version-free : IsFree (parse_route (codes "/subjects/{subject}/versions/{version}")) to_versions
unfolding matchit_on_literals
version-free = refl

-- the rows so far
abbrev pub to_version : RowsOf (RouteOf Route)
to_version = with_route (codes "/subjects/{subject}/versions/{version}") Version to_versions

pub schema-free : IsFree (parse_route (codes "/schemas/ids/{id}")) to_version
unfolding matchit_on_literals
schema-free = refl

-- the rows so far
abbrev pub to_schema : RowsOf (RouteOf Route)
to_schema = with_route (codes "/schemas/ids/{id}") Schema to_version

pub compatibility-free : IsFree (parse_route (codes "/compatibility/subjects/{subject}/versions/{version}")) to_schema
unfolding matchit_on_literals
compatibility-free = refl

-- the rows so far
abbrev pub to_compatibility : RowsOf (RouteOf Route)
to_compatibility = with_route (codes "/compatibility/subjects/{subject}/versions/{version}") Compatibility to_schema

pub config-free : IsFree (parse_route (codes "/config")) to_compatibility
unfolding matchit_on_literals
config-free = refl

-- the rows so far
abbrev pub to_config : RowsOf (RouteOf Route)
to_config = with_route (codes "/config") Config to_compatibility

pub subject_config-free : IsFree (parse_route (codes "/config/{subject}")) to_config
unfolding matchit_on_literals
subject_config-free = refl

-- the rows so far
abbrev pub to_subject_config : RowsOf (RouteOf Route)
to_subject_config = with_route (codes "/config/{subject}") SubjectConfig to_config

pub transcode-free : IsFree (parse_route (codes "/transcode/{id}")) to_subject_config
unfolding matchit_on_literals
transcode-free = refl
