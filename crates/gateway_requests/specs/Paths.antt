-- The paths of the service, by their segments (Confluent Schema Registry API; `/transcode` is this project's own).
use Rattle.std.specs.Prelude.{◌<◌, ◌++◌, ℕ, List, codes, length}
use Rattle.std.specs.Path.{HasNoSlash}
use Rattle.spec_service.specs.declared.route.Route.{Route}
use Rattle.spec_service.specs.declared.route.Route.TheVariants.{Subjects, Subject, Versions, Version, Schema, Compatibility, Config, SubjectConfig, Transcode}

-- a segment: a text that is not empty and has no slash
pub record IsSegment (text : List ℕ) : Type 0 where
  pub some : 0 < length text
  pub no_slash : HasNoSlash text

-- the paths of each route
pub data IsPathOf : Route → List ℕ → Type 0 where
  subjects : IsPathOf Subjects (codes "/subjects")
  subject : (s : List ℕ) → IsSegment s → IsPathOf Subject (codes "/subjects/" ++ s)
  versions : (s : List ℕ) → IsSegment s → IsPathOf Versions (codes "/subjects/" ++ s ++ codes "/versions")
  version : (s v : List ℕ) → IsSegment s → IsSegment v
      → IsPathOf Version (codes "/subjects/" ++ s ++ codes "/versions/" ++ v)
  schema : (id : List ℕ) → IsSegment id → IsPathOf Schema (codes "/schemas/ids/" ++ id)
  compatibility : (s v : List ℕ) → IsSegment s → IsSegment v
      → IsPathOf Compatibility (codes "/compatibility/subjects/" ++ s ++ codes "/versions/" ++ v)
  config : IsPathOf Config (codes "/config")
  subject_config : (s : List ℕ) → IsSegment s → IsPathOf SubjectConfig (codes "/config/" ++ s)
  transcode : (id : List ℕ) → IsSegment id → IsPathOf Transcode (codes "/transcode/" ++ id)
