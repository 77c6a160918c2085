-- A path that the pattern of a route fits is one of the route's paths.
use Rattle.std.proofs.Common.{◌≡◌, ◌<◌, ◌++◌, ◌∙◌, inl, inr, ℕ, List, [], ◌∷◌, codes, Bool, true, refl, ap, subst, ltb, ◌&&◌, arith, append-nil, append_assoc}
use Rattle.std.proofs.lemmas.Bool.Decides.{nat_tests}
use Rattle.matchit.specs.Rows.{RowsOf, param_token}
use Rattle.matchit.specs.Level.{IsText}
use Rattle.gateway_requests.specs.Paths.{IsPathOf, IsSegment, subjects, subject, versions, version, schema, compatibility, config, subject_config, transcode}
use Rattle.spec_service.specs.declared.route.Route.{Route}
use Rattle.spec_service.specs.declared.route.Route.TheVariants.{Subject, Versions, Version, Schema, Compatibility, SubjectConfig, Transcode}
use Rattle.gateway_requests.proofs.Fits.{Fits, SomeFits, StandsFor}
use Rattle.gateway_requests.proofs.Table.{any, table}

pub text-after : (w rest : List ℕ) → IsText (w ++ rest) → IsText rest
text-after [] rest h = h
text-after (b ∷ w) rest h = text-after w rest h.1

pub text-before : (w rest : List ℕ) → IsText (w ++ rest) → IsText w
text-before [] rest h = tt
text-before (b ∷ w) rest h = (h.0, text-before w rest h.1)

-- each token is a byte
abbrev pub is_text : List ℕ → Bool
is_text [] = true
is_text (b ∷ rest) = ltb b 256 && is_text rest

pub text-tested : (w : List ℕ) → is_text w ≡ true → IsText w
text-tested [] e = tt
text-tested (b ∷ w) e = (grind (arith, nat_tests), text-tested w (grind (arith, nat_tests)))

-- the path begins with this text, and the rest of the pattern fits what follows
record Begins (w t path : List ℕ) : Type 0 where
  rest : List ℕ
  whole : path ≡ w ++ rest
  text : IsText rest
  fits : Fits t rest

begins : (w t path : List ℕ) → is_text w ≡ true → IsText path → Fits (w ++ t) path → Begins w t path
unfolding Fits
begins [] t path e text f = record { rest = path; whole = refl; text = text; fits = f }
begins (x ∷ w) t path e text f = by f.3 (begins w t f.1)
  where
    byte : x < 256
    byte = grind (arith, nat_tests)

    others : is_text w ≡ true
    others = grind (arith, nat_tests)

    by : StandsFor x f.0 → (is_text w ≡ true → IsText f.1 → Fits (w ++ t) f.1 → Begins w t f.1) → Begins (x ∷ w) t path
    by (inl is) later =
        let here : path ≡ x ∷ f.1 = rw is at f.2 in
        let b = later others (text-after (x ∷ []) f.1 (rw here at text)) f.4 in
        record { rest = b.rest; whole = here ∙ ap (λ p. x ∷ p) b.whole; text = b.text; fits = b.fits }
    by (inr (inl is)) later = absurd (let same : x ≡ 256 = is.0 in omega (arith, byte))
    by (inr (inr is)) later = absurd (let same : x ≡ 257 = is in omega (arith, byte))

-- the path begins with a segment, and the rest of the pattern fits what follows
record BeginsAny (t path : List ℕ) : Type 0 where
  segment : List ℕ
  rest : List ℕ
  whole : path ≡ segment ++ rest
  is : IsSegment segment
  text : IsText rest
  fits : Fits t rest

begins-any : (t path : List ℕ) → IsText path → Fits (any ++ t) path → BeginsAny t path
unfolding Fits
begins-any t path text f = by f.3
  where
    by : StandsFor param_token f.0 → BeginsAny t path
    by (inl is) =
        let here : path ≡ 256 ∷ f.1 = rw is at f.2 in
        let byte = rw here at text in
        absurd (let l : 256 < 256 = byte.0 in omega arith)
    by (inr (inl is)) =
        let after = text-after f.0 f.1 (rw f.2 at text) in
        record { segment = f.0; rest = f.1; whole = f.2; is = is.1; text = after; fits = f.4 }
    by (inr (inr is)) = absurd (let same : 256 ≡ 257 = is in omega arith)

-- the pattern ends
ends : (path : List ℕ) → Fits [] path → path ≡ []
unfolding Fits
ends path f = f

ends-any : (path : List ℕ) → IsText path → Fits any path → IsSegment path
ends-any path text f =
    let s = begins-any [] path text f in
    rw (s.whole, ends s.rest s.fits, append-nil) s.is

is-literal : (w path : List ℕ) → is_text w ≡ true → IsText path → Fits w path → path ≡ w
is-literal w path e text f =
    let b = begins w [] path e text (rw append-nil f) in
    rw (b.whole, ends b.rest b.fits, append-nil) refl

is-subject : (path : List ℕ) → IsText path → Fits (codes "/subjects/" ++ any) path → IsPathOf Subject path
is-subject path text f =
    let a = begins (codes "/subjects/") any path refl text f in
    rw a.whole (subject a.rest (ends-any a.rest a.text a.fits))

is-versions : (path : List ℕ) → IsText path → Fits (codes "/subjects/" ++ (any ++ codes "/versions")) path
    → IsPathOf Versions path
is-versions path text f =
    let a = begins (codes "/subjects/") (any ++ codes "/versions") path refl text f in
    let s = begins-any (codes "/versions") a.rest a.text a.fits in
    rw (a.whole, s.whole, is-literal (codes "/versions") s.rest refl s.text s.fits) (versions s.segment s.is)

is-version : (path : List ℕ) → IsText path → Fits (codes "/subjects/" ++ (any ++ (codes "/versions/" ++ any))) path
    → IsPathOf Version path
is-version path text f =
    let a = begins (codes "/subjects/") (any ++ (codes "/versions/" ++ any)) path refl text f in
    let s = begins-any (codes "/versions/" ++ any) a.rest a.text a.fits in
    let b = begins (codes "/versions/") any s.rest refl s.text s.fits in
    rw (a.whole, s.whole, b.whole, ← (append_assoc s.segment (codes "/versions/") b.rest))
    (version s.segment b.rest s.is (ends-any b.rest b.text b.fits))

is-schema : (path : List ℕ) → IsText path → Fits (codes "/schemas/ids/" ++ any) path → IsPathOf Schema path
is-schema path text f =
    let a = begins (codes "/schemas/ids/") any path refl text f in
    rw a.whole (schema a.rest (ends-any a.rest a.text a.fits))

is-compatibility : (path : List ℕ) → IsText path
    → Fits (codes "/compatibility/subjects/" ++ (any ++ (codes "/versions/" ++ any))) path
    → IsPathOf Compatibility path
is-compatibility path text f =
    let a = begins (codes "/compatibility/subjects/") (any ++ (codes "/versions/" ++ any)) path refl text f in
    let s = begins-any (codes "/versions/" ++ any) a.rest a.text a.fits in
    let b = begins (codes "/versions/") any s.rest refl s.text s.fits in
    rw (a.whole, s.whole, b.whole, ← (append_assoc s.segment (codes "/versions/") b.rest))
    (compatibility s.segment b.rest s.is (ends-any b.rest b.text b.fits))

is-subject_config : (path : List ℕ) → IsText path → Fits (codes "/config/" ++ any) path → IsPathOf SubjectConfig path
is-subject_config path text f =
    let a = begins (codes "/config/") any path refl text f in
    rw a.whole (subject_config a.rest (ends-any a.rest a.text a.fits))

is-transcode : (path : List ℕ) → IsText path → Fits (codes "/transcode/" ++ any) path → IsPathOf Transcode path
is-transcode path text f =
    let a = begins (codes "/transcode/") any path refl text f in
    rw a.whole (transcode a.rest (ends-any a.rest a.text a.fits))

-- what each row's pattern fits is a path of the row's route
abbrev AllLead : RowsOf Route → List ℕ → Type 0
AllLead [] path = Unit {0}
AllLead ((t, route) ∷ rest) path = (Fits t path → IsPathOf route path) × AllLead rest path

lead : (rs : RowsOf Route) (path : List ℕ) (route : Route) → AllLead rs path → SomeFits rs route path
    → IsPathOf route path
lead [] path route all f = absurd f
lead ((t, r) ∷ rest) path route all (inl f) = subst (λ named. IsPathOf named path) f.0 (all.0 f.1)
lead ((t, r) ∷ rest) path route all (inr f) = lead rest path route all.1 f

pub path-of-fits : (path : List ℕ) (route : Route) → IsText path → SomeFits table route path → IsPathOf route path
path-of-fits path route text f =
    lead table path route (
      is-compatibility path text,
      (
        is-subject_config path text,
        (
          λ fits. rw (is-literal (codes "/config") path refl text fits) config,
          (
            is-schema path text,
            (
              is-version path text,
              (
                is-versions path text,
                (
                  is-subject path text,
                  (
                    λ fits. rw (is-literal (codes "/subjects") path refl text fits) subjects,
                    (is-transcode path text, tt),
                  ),
                ),
              ),
            ),
          ),
        ),
      ),
    )
    f
