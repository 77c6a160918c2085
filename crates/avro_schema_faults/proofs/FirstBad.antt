-- The first default that is no value of its field's type.
use Rattle.std.proofs.Common.{◌≡◌, ◌<◌, ◌≤◌, ◌+◌, ◌⊎◌, inl, inr, ℕ, zero, suc, List, [], ◌∷◌, Bool, true, false, cond, not, is_some, Option, Some, None, arith, refl, sym, ap, ◌∙◌, slice_get}
use Rattle.std.specs.List.{position_from}
use Rattle.spec_avro.specs.Datum.{Datum}
use Rattle.spec_avro.specs.Node.{Names}
use Rattle.spec_schema.specs.Defaults.{all_defaults, field_default, field_defaults, node_defaults}
use Rattle.spec_schema.specs.Draft.{Draft, DraftField, RecordDraft, Whole}
use Rattle.avro_schema_faults.specs.declared.bad_defaults.FieldPlace.{FieldPlace}
use Rattle.avro_schema_faults.specs.DefaultPlaces.{HasBadDefault, IsFirstBadDefault, bad_field, first_bad, is_bad, or_later}
use Rattle.avro_schema_faults.specs.Searching.{is_record}

-- ---- the first of a list

record IsFirst {A : Type 0} (t : A → Bool) (i : ℕ) (xs : List A) (j : ℕ) : Type 0 where
  place : ℕ
  is : j ≡ i + place
  x : A
  at : slice_get xs place ≡ Some x
  holds : t x ≡ true
  before : (k : ℕ) (y : A) → slice_get xs k ≡ Some y → t y ≡ true → place ≤ k

later-ones : {A : Type 0} (t : A → Bool) (x : A) (xs : List A) (place : ℕ) → t x ≡ false → ((k : ℕ) (y : A) → slice_get xs k ≡ Some y → t y ≡ true → place ≤ k) → (k : ℕ) (y : A) → slice_get (x ∷ xs) k ≡ Some y → t y ≡ true → suc place ≤ k
later-ones t x xs place fails before zero y at holds = absurd (let same : x ≡ y = cc in let e = ap t same in let bad : ⊥ = cc in bad)
later-ones t x xs place fails before (suc k) y at holds = let le = before k y at holds in omega (arith, le)

is-first : {A : Type 0} (t : A → Bool) (i : ℕ) (xs : List A) (j : ℕ) → position_from t i xs ≡ Some j → IsFirst t i xs j
is-first t i [] j h = absurd (let no : ⊥ = cc in no)
is-first {A = A} t i (x ∷ xs) j h = go (is-first t (i + 1) xs j) (t x) refl h where
  go : (position_from t (i + 1) xs ≡ Some j → IsFirst t (i + 1) xs j) → (b : Bool) → t x ≡ b → cond b (Some i) (position_from t (i + 1) xs) ≡ Some j → IsFirst t i (x ∷ xs) j
  go rest true is h = let same : i ≡ j = cc in record { place = 0; is = sym same ∙ (let e : i ≡ i + 0 = omega arith in e); x = x; at = refl; holds = is; before = λ k y at holds. omega arith }
  go rest false is h =
      let r = rest h in
      record { place = suc r.place; is = r.is ∙ (let e : (i + 1) + r.place ≡ i + suc r.place = omega arith in e); x = r.x; at = r.at; holds = r.holds; before = later-ones t x xs r.place is r.before }

is-none : {A : Type 0} (t : A → Bool) (i : ℕ) (xs : List A) → position_from t i xs ≡ None → (k : ℕ) (y : A) → slice_get xs k ≡ Some y → t y ≡ true → ⊥
is-none t i [] h k y at holds = let no : ⊥ = cc in no
is-none {A = A} t i (x ∷ xs) h k y at holds = go (λ e n there. is-none t (i + 1) xs e n y there holds) (t x) refl h k at where
  go : (position_from t (i + 1) xs ≡ None → (n : ℕ) → slice_get xs n ≡ Some y → ⊥) → (b : Bool) → t x ≡ b → cond b (Some i) (position_from t (i + 1) xs) ≡ None → (k : ℕ) → slice_get (x ∷ xs) k ≡ Some y → ⊥
  go rest true is h k at = let no : ⊥ = cc in no
  go rest false is h zero at = let same : x ≡ y = cc in let e = ap t same in let bad : ⊥ = cc in bad
  go rest false is h (suc k) at = rest h k at

-- ---- bad defaults

bad-true : (drafts : List Draft) (f : DraftField) → field_default drafts f.node f.default ≡ None → is_bad drafts f ≡ true
bad-true drafts f e = ap (λ (o : Option (Option Datum)). not (is_some o)) e

bad-none : (o : Option (Option Datum)) → not (is_some o) ≡ true → o ≡ None
bad-none None h = refl
bad-none (Some x) h = absurd (let no : ⊥ = cc in no)

record IsFirstDraft (drafts : List Draft) (node : ℕ) (ds : List Draft) (m i : ℕ) : Type 0 where
  place : ℕ
  is : m ≡ node + place
  draft : Draft
  at : slice_get ds place ≡ Some draft
  bad : bad_field drafts draft ≡ Some i
  before : (k : ℕ) (e : Draft) (j : ℕ) → slice_get ds k ≡ Some e → bad_field drafts e ≡ Some j → place ≤ k

later-drafts : (drafts : List Draft) (d : Draft) (ds : List Draft) (place : ℕ) → bad_field drafts d ≡ None → ((k : ℕ) (e : Draft) (j : ℕ) → slice_get ds k ≡ Some e → bad_field drafts e ≡ Some j → place ≤ k) → (k : ℕ) (e : Draft) (j : ℕ) → slice_get (d ∷ ds) k ≡ Some e → bad_field drafts e ≡ Some j → suc place ≤ k
later-drafts drafts d ds place none before zero e j at bad = absurd (let same : d ≡ e = cc in let f = ap (bad_field drafts) same in let no : ⊥ = cc in no)
later-drafts drafts d ds place none before (suc k) e j at bad = let le = before k e j at bad in omega (arith, le)

no-more : (n : ℕ) → n ≡ n + 0
no-more n = omega arith

first-draft : (drafts : List Draft) (node : ℕ) (ds : List Draft) (m i : ℕ) → first_bad drafts node ds ≡ Some (record { node = m; position = i }) → IsFirstDraft drafts node ds m i
first-draft drafts node [] m i h = absurd (let no : ⊥ = cc in no)
first-draft drafts node (d ∷ ds) m i h = go (first-draft drafts (node + 1) ds m i) (bad_field drafts d) refl h where
  go : (first_bad drafts (node + 1) ds ≡ Some (record { node = m; position = i }) → IsFirstDraft drafts (node + 1) ds m i) → (o : Option ℕ) → bad_field drafts d ≡ o → or_later node o (first_bad drafts (node + 1) ds) ≡ Some (record { node = m; position = i }) → IsFirstDraft drafts node (d ∷ ds) m i
  go rest (Some j) is h =
      let pair : record { node = node; position = j } ≡ record { node = m; position = i } = cc in
      let first : node ≡ m = ap (λ (p : FieldPlace). p.node) pair in
      let second : j ≡ i = ap (λ (p : FieldPlace). p.position) pair in
      record { place = 0; is = sym first ∙ no-more node; draft = d; at = refl; bad = is ∙ ap Some second; before = λ k e j at bad. omega arith }
  go rest None is h =
      let r = rest h in
      record { place = suc r.place; is = r.is ∙ (let e : (node + 1) + r.place ≡ node + suc r.place = omega arith in e); draft = r.draft; at = r.at; bad = r.bad; before = later-drafts drafts d ds r.place is r.before }

-- the field of a draft that has one
record OfDraft (drafts : List Draft) (d : Draft) (i : ℕ) : Type 0 where
  names : Names
  fields : List DraftField
  is : d ≡ RecordDraft names fields
  first : IsFirst (is_bad drafts) 0 fields i

of-draft : (drafts : List Draft) (d : Draft) (i : ℕ) → bad_field drafts d ≡ Some i → OfDraft drafts d i
of-draft drafts (Whole n) i h = absurd (let no : ⊥ = cc in no)
of-draft drafts (RecordDraft names fields) i h = record { names = names; fields = fields; is = refl; first = is-first (is_bad drafts) 0 fields i h }

has-bad : (drafts : List Draft) (names : Names) (fields : List DraftField) (j : ℕ) (f : DraftField) → slice_get fields j ≡ Some f → field_default drafts f.node f.default ≡ None → (i : ℕ) × (bad_field drafts (RecordDraft names fields) ≡ Some i) × (i ≤ j)
has-bad drafts names fields j f at bad = go (position_from (is_bad drafts) 0 fields) refl where
  go : (o : Option ℕ) → position_from (is_bad drafts) 0 fields ≡ o → (i : ℕ) × (bad_field drafts (RecordDraft names fields) ≡ Some i) × (i ≤ j)
  go None none = absurd (is-none (is_bad drafts) 0 fields none j f at (bad-true drafts f bad))
  go (Some i) some = let r = is-first (is_bad drafts) 0 fields i some in let le = r.before j f at (bad-true drafts f bad) in let e = r.is in (i, some, omega (arith, le, e))

pub less-or-same : (m n : ℕ) → m ≤ n → (m < n) ⊎ (m ≡ n)
less-or-same zero zero le = inr refl
less-or-same zero (suc n) le = inl (omega arith)
less-or-same (suc m) zero le = absurd (omega (arith, le))
less-or-same (suc m) (suc n) le = up (less-or-same m n (omega (arith, le))) where
  up : (m < n) ⊎ (m ≡ n) → (suc m < suc n) ⊎ (suc m ≡ suc n)
  up (inl lt) = inl (omega (arith, lt))
  up (inr e) = inr (ap suc e)

pub first-is : (drafts : List Draft) (m i : ℕ) → first_bad drafts 0 drafts ≡ Some (record { node = m; position = i }) → IsFirstBadDefault drafts m i
first-is drafts m i h = record { has = has; first = first } where
  r : IsFirstDraft drafts 0 drafts m i
  r = first-draft drafts 0 drafts m i h

  o : OfDraft drafts r.draft i
  o = of-draft drafts r.draft i r.bad

  number : r.place ≡ m
  number = let e = r.is in omega (arith, e)

  position : o.first.place ≡ i
  position = let e = o.first.is in omega (arith, e)

  record_at : slice_get drafts m ≡ Some (RecordDraft o.names o.fields)
  record_at = ap (slice_get drafts) (sym number) ∙ r.at ∙ ap Some o.is

  has : HasBadDefault drafts m i
  has = record { names = o.names; fields = o.fields; field = o.first.x; record_is = record_at; field_is = ap (slice_get o.fields) (sym position) ∙ o.first.at; bad = bad-none _ o.first.holds }

  same-record : (n j : ℕ) → m ≡ n → HasBadDefault drafts n j → i ≤ j
  same-record n j same b =
      let one : Some (RecordDraft o.names o.fields) ≡ Some (RecordDraft b.names b.fields) = sym record_at ∙ ap (slice_get drafts) same ∙ b.record_is in
      let fields : o.fields ≡ b.fields = ap fields_or one in
      let le = o.first.before j b.field (ap (λ (fs : List DraftField). slice_get fs j) fields ∙ b.field_is) (bad-true drafts b.field b.bad) in
      omega (arith, le, position)
    where
      fields_or : Option Draft → List DraftField
      fields_or (Some (RecordDraft names fields)) = fields
      fields_or _ = []

  first : (n j : ℕ) → HasBadDefault drafts n j → (m < n) ⊎ ((m ≡ n) × (i ≤ j))
  first n j b = go (less-or-same m n le) where
    found : (k : ℕ) × (bad_field drafts (RecordDraft b.names b.fields) ≡ Some k) × (k ≤ j)
    found = has-bad drafts b.names b.fields j b.field b.field_is b.bad

    le : m ≤ n
    le = let at = r.before n (RecordDraft b.names b.fields) found.0 b.record_is found.1 in omega (arith, at, number)

    go : (m < n) ⊎ (m ≡ n) → (m < n) ⊎ ((m ≡ n) × (i ≤ j))
    go (inl lt) = inl lt
    go (inr e) = inr (e, same-record n j e b)

pub first-is_record : (drafts : List Draft) (m i : ℕ) → HasBadDefault drafts m i → is_record (slice_get drafts m) ≡ true
first-is_record drafts m i h = ap is_record h.record_is

-- ---- what becomes of all defaults

fields-good : (drafts : List Draft) (i : ℕ) (fs : List DraftField) → position_from (is_bad drafts) i fs ≡ None → (own : List (Option Datum)) × (field_defaults drafts fs ≡ Some own)
fields-good drafts i [] h = ([], refl)
fields-good drafts i (f ∷ fs) h = go (fields-good drafts (i + 1) fs) (field_default drafts f.node f.default) refl h where
  go : (position_from (is_bad drafts) (i + 1) fs ≡ None → (own : List (Option Datum)) × (field_defaults drafts fs ≡ Some own)) → (o : Option (Option Datum)) → field_default drafts f.node f.default ≡ o → cond (not (is_some o)) (Some i) (position_from (is_bad drafts) (i + 1) fs) ≡ None → (own : List (Option Datum)) × (field_defaults drafts (f ∷ fs) ≡ Some own)
  go rest None is h = absurd (let no : ⊥ = cc in no)
  go rest (Some x) is h = let r = rest h in (x ∷ r.0, rw (is, r.1) refl)

fields-bad : (drafts : List Draft) (i : ℕ) (fs : List DraftField) (j : ℕ) → position_from (is_bad drafts) i fs ≡ Some j → field_defaults drafts fs ≡ None
fields-bad drafts i [] j h = absurd (let no : ⊥ = cc in no)
fields-bad drafts i (f ∷ fs) j h = go (fields-bad drafts (i + 1) fs j) (field_default drafts f.node f.default) refl h where
  go : (position_from (is_bad drafts) (i + 1) fs ≡ Some j → field_defaults drafts fs ≡ None) → (o : Option (Option Datum)) → field_default drafts f.node f.default ≡ o → cond (not (is_some o)) (Some i) (position_from (is_bad drafts) (i + 1) fs) ≡ Some j → field_defaults drafts (f ∷ fs) ≡ None
  go rest None is h = rw is refl
  go rest (Some x) is h = rw (is, rest h) refl

node-good : (drafts : List Draft) (d : Draft) → bad_field drafts d ≡ None → (own : List (Option Datum)) × (node_defaults drafts d ≡ Some own)
node-good drafts (Whole n) h = ([], refl)
node-good drafts (RecordDraft names fs) h = fields-good drafts 0 fs h

node-bad : (drafts : List Draft) (d : Draft) (j : ℕ) → bad_field drafts d ≡ Some j → node_defaults drafts d ≡ None
node-bad drafts (Whole n) j h = absurd (let no : ⊥ = cc in no)
node-bad drafts (RecordDraft names fs) j h = fields-bad drafts 0 fs j h

pub all-good : (drafts : List Draft) (node : ℕ) (ds : List Draft) → first_bad drafts node ds ≡ None → (all : List (List (Option Datum))) × (all_defaults drafts ds ≡ Some all)
all-good drafts node [] h = ([], refl)
all-good drafts node (d ∷ ds) h = go (all-good drafts (node + 1) ds) (bad_field drafts d) refl h where
  go : (first_bad drafts (node + 1) ds ≡ None → (all : List (List (Option Datum))) × (all_defaults drafts ds ≡ Some all)) → (o : Option ℕ) → bad_field drafts d ≡ o → or_later node o (first_bad drafts (node + 1) ds) ≡ None → (all : List (List (Option Datum))) × (all_defaults drafts (d ∷ ds) ≡ Some all)
  go rest (Some j) is h = absurd (let no : ⊥ = cc in no)
  go rest None is h = let own = node-good drafts d is in let r = rest h in (own.0 ∷ r.0, rw (own.1, r.1) refl)

pub all-bad : (drafts : List Draft) (node : ℕ) (ds : List Draft) (p : FieldPlace) → first_bad drafts node ds ≡ Some p → all_defaults drafts ds ≡ None
all-bad drafts node [] p h = absurd (let no : ⊥ = cc in no)
all-bad drafts node (d ∷ ds) p h = go (all-bad drafts (node + 1) ds p) (bad_field drafts d) refl h where
  go : (first_bad drafts (node + 1) ds ≡ Some p → all_defaults drafts ds ≡ None) → (o : Option ℕ) → bad_field drafts d ≡ o → or_later node o (first_bad drafts (node + 1) ds) ≡ Some p → all_defaults drafts (d ∷ ds) ≡ None
  go rest (Some j) is h = rw (node-bad drafts d j is) refl
  go rest None is h = let own = node-good drafts d is in rw (own.1, rest h) refl
