-- Each path of a route has the route.
use Rattle.std.proofs.Common.{◌≡◌, ◌++◌, ◌∙◌, ℕ, List, codes, Some, refl, append_assoc}
use Rattle.matchit.specs.Level.{IsText}
use Rattle.matchit.specs.Rows.{RowsOf, param_token}
use Rattle.matchit.specs.Seek.{step, first, with_suffix}
use Rattle.matchit.proofs.OnLiterals.{matchit_on_literals}
use Rattle.gateway_requests.specs.Paths.{IsPathOf, IsSegment, subjects, subject, versions, version, schema, compatibility, config, subject_config, transcode}
use Rattle.spec_service.specs.declared.route.Route.{Route}
use Rattle.spec_service.specs.declared.route.Route.TheVariants.{Subjects, Subject, Versions, Version, Schema, Compatibility, Config, SubjectConfig, Transcode}
use Rattle.gateway_requests.proofs.Along.{steps, along, any-ends, any-goes_on, no_cut, slash_cuts, slash_alone}
use Rattle.gateway_requests.proofs.Found.{text-after, text-before}
use Rattle.gateway_requests.proofs.Table.{table}

-- the rows that go on with a literal and then a parameter
abbrev rows_after : List ℕ → RowsOf Route → RowsOf Route
rows_after w rs = step param_token (steps w rs)

of-subjects : first table (codes "/subjects") ≡ Some Subjects
unfolding matchit_on_literals
of-subjects = refl

of-config : first table (codes "/config") ≡ Some Config
unfolding matchit_on_literals
of-config = refl

of-schema : (id : List ℕ) → IsText id → IsSegment id → first table (codes "/schemas/ids/" ++ id) ≡ Some Schema
of-schema id text is =
    along (codes "/schemas/ids/") table id refl ∙ any-ends (rows_after (codes "/schemas/ids/") table) id text is refl

of-subject_config : (s : List ℕ) → IsText s → IsSegment s → first table (codes "/config/" ++ s) ≡ Some SubjectConfig
of-subject_config s text is =
    along (codes "/config/") table s refl ∙ any-ends (rows_after (codes "/config/") table) s text is refl

of-transcode : (id : List ℕ) → IsText id → IsSegment id → first table (codes "/transcode/" ++ id) ≡ Some Transcode
of-transcode id text is =
    along (codes "/transcode/") table id refl ∙ any-ends (rows_after (codes "/transcode/") table) id text is refl

of-subject : (s : List ℕ) → IsText s → IsSegment s → first table (codes "/subjects/" ++ s) ≡ Some Subject
of-subject s text is =
    along (codes "/subjects/") table s refl
    ∙ any-ends (rows_after (codes "/subjects/") table) s text is (rw (no_cut s is) refl)

of-versions : (s : List ℕ) → IsText s → IsSegment s
    → first table (codes "/subjects/" ++ s ++ codes "/versions") ≡ Some Versions
unfolding matchit_on_literals
of-versions s text is =
    along (codes "/subjects/") table (s ++ codes "/versions") refl
    ∙ any-goes_on (rows_after (codes "/subjects/") table) s (codes "versions") text is (rw (slash_cuts s is) refl)

of-version : (s v : List ℕ) → IsText s → IsText v → IsSegment s → IsSegment v
    → first table (codes "/subjects/" ++ s ++ codes "/versions/" ++ v) ≡ Some Version
of-version s v text later is end =
    let rs = rows_after (codes "/subjects/") table in
    let after = with_suffix slash_alone rs in
    rw (append_assoc s (codes "/versions/") v)
    (along (codes "/subjects/") table (s ++ (codes "/versions/" ++ v)) refl
    ∙ any-goes_on rs s (codes "versions/" ++ v) text is (rw (slash_cuts s is) refl)
    ∙ along (codes "/versions/") after v refl
    ∙ any-ends (rows_after (codes "/versions/") after) v later end refl)

of-compatibility : (s v : List ℕ) → IsText s → IsText v → IsSegment s → IsSegment v
    → first table (codes "/compatibility/subjects/" ++ s ++ codes "/versions/" ++ v) ≡ Some Compatibility
of-compatibility s v text later is end =
    let rs = rows_after (codes "/compatibility/subjects/") table in
    let after = with_suffix slash_alone rs in
    rw (append_assoc s (codes "/versions/") v)
    (along (codes "/compatibility/subjects/") table (s ++ (codes "/versions/" ++ v)) refl
    ∙ any-goes_on rs s (codes "versions/" ++ v) text is (rw (slash_cuts s is) refl)
    ∙ along (codes "/versions/") after v refl
    ∙ any-ends (rows_after (codes "/versions/") after) v later end refl)

pub path-leads : (route : Route) (path : List ℕ) → IsPathOf route path → IsText path → first table path ≡ Some route
path-leads _ _ subjects text = of-subjects
path-leads _ _ (subject s is) text = of-subject s (text-after (codes "/subjects/") s text) is
path-leads _ _ (versions s is) text =
    of-versions s (text-before s (codes "/versions") (text-after (codes "/subjects/") (s ++ codes "/versions") text)) is
path-leads _ _ (version s v is end) text =
    let joined = rw (append_assoc s (codes "/versions/") v) at text in
    let after = text-after (codes "/subjects/") (s ++ (codes "/versions/" ++ v)) joined in
    of-version s v (text-before s (codes "/versions/" ++ v) after)
    (text-after (codes "/versions/") v (text-after s (codes "/versions/" ++ v) after)) is end
path-leads _ _ (schema id is) text = of-schema id (text-after (codes "/schemas/ids/") id text) is
path-leads _ _ (compatibility s v is end) text =
    let joined = rw (append_assoc s (codes "/versions/") v) at text in
    let after = text-after (codes "/compatibility/subjects/") (s ++ (codes "/versions/" ++ v)) joined in
    of-compatibility s v (text-before s (codes "/versions/" ++ v) after)
    (text-after (codes "/versions/") v (text-after s (codes "/versions/" ++ v) after)) is end
path-leads _ _ config text = of-config
path-leads _ _ (subject_config s is) text = of-subject_config s (text-after (codes "/config/") s text) is
path-leads _ _ (transcode id is) text = of-transcode id (text-after (codes "/transcode/") id text) is
