-- What a search for a node comes to in members, and in fields, one after another.
use Rattle.std.proofs.Common.{◌≡◌, ◌<◌, ◌≤◌, ◌+◌, ℕ, suc, List, [], ◌∷◌, ◌++◌, length, drop, get_or, Option, Some, None, Ok, arith, refl, sym, ap, subst, ◌∙◌, slice_get, length-append, add-one}
use Rattle.std.proofs.Math.Seq.{drop-cons}
use Rattle.std.proofs.Math.ListN.{drop_of_length-le}
use Rattle.serde_json.specs.Data.{Data, Items, item, no_items}
use Rattle.serde_json.specs.View.{view, items_view}
use Rattle.serde_json.specs.declared.value.Value.{Value}
use Rattle.spec_schema.specs.Draft.{Draft, DraftField}
use Rattle.spec_schema.specs.Head.{Head, heads_of}
use Rattle.avro_schema_names.proofs.DraftLists.{get-front, length-heads_of}
use Rattle.avro_schema_paths.specs.Places.{Path}
use Rattle.avro_schema_paths.specs.declared.step.Step.TheVariants as steps
use Rattle.spec_schema.specs.Walk.{field, fields_after, members, walk}
use Rattle.avro_schema_faults.specs.Faults.{field_after, first_field, first_member, next_field, next_member, schema}
use Rattle.avro_schema_faults.specs.Searching.{Behind, SoughtIn, SoughtInField, SoughtInFields, SoughtInMembers}
use Rattle.avro_schema_faults.proofs.Searching.{InTwo, get-behind, in-two, moved, new_of}

-- ---- numbers and drafts after others

here-draft : (front back new : List Draft) (k : ℕ) → front ++ back ≡ new → k < length front → slice_get front k ≡ slice_get new k
here-draft front back new k is lt = sym (get-front front back k lt) ∙ ap (λ (xs : List Draft). slice_get xs k) is

here-below : (front back new : List Draft) (k : ℕ) → front ++ back ≡ new → k < length front → k < length new
here-below front back new k is lt = let l = length-append front back in let m = ap length is in omega (arith, l, m, lt)

far-draft : (front back new : List Draft) (k rest : ℕ) → front ++ back ≡ new → length front + rest ≡ k → slice_get back rest ≡ slice_get new k
far-draft front back new k rest is far = sym (get-behind front back rest) ∙ ap (λ (j : ℕ). slice_get (front ++ back) j) far ∙ ap (λ (xs : List Draft). slice_get xs k) is

far-below : (front back new : List Draft) (k rest : ℕ) → front ++ back ≡ new → length front + rest ≡ k → rest < length back → k < length new
far-below front back new k rest is far lt = let l = length-append front back in let m = ap length is in omega (arith, l, m, far, lt)

far-number : (heads : List Head) (front : List Draft) (k rest : ℕ) → length front + rest ≡ k → length (heads ++ heads_of front) + rest ≡ length heads + k
far-number heads front k rest far = let l = length-append heads (heads_of front) in let h = length-heads_of front in omega (arith, l, h, far)

far-left : (front back new : List Draft) (k rest left : ℕ) → front ++ back ≡ new → length front + rest ≡ k → length back + left ≡ rest → length new + left ≡ k
far-left front back new k rest left is far last = let l = length-append front back in let m = ap length is in omega (arith, l, m, far, last)

-- ---- members

members-ok : (d : Data) (ds : Items) (enclosing : List ℕ) (heads : List Head) (ns : List ℕ) (new : List Draft) → members (item d ds) enclosing heads ≡ Ok (ns, new) → InTwo (walk d) (λ n. members ds) enclosing heads new
unfolding members
members-ok d ds enclosing heads ns new h = in-two (walk d) (λ n. members ds) (λ n more. n ∷ more) enclosing heads ns new h

pub members-this : (d : Data) (ds : Items) (i k : ℕ) (p : Path) → Behind (steps.At i) (SoughtIn d k) None p → SoughtInMembers (item d ds) i k None p
members-this d ds i k p (q, e, s) enclosing heads ns new h =
    let t = members-ok d ds enclosing heads ns new h in
    let l = s enclosing heads t.front (t.a, t.first) in (
      here-below t.front t.back new k t.is l.0,
      record {
        j = 0;
        member = d;
        more = heads;
        rest = q;
        at = first_member;
        path_is = e ∙ (let same : i ≡ i + 0 = omega arith in ap (λ (j : ℕ). steps.At j ∷ q) same);
        found = moved (schema d enclosing heads) (length heads + k) (length heads + k) (slice_get t.front k) (slice_get new k) q refl (here-draft t.front t.back new k t.is l.0) l.1;
      },
    )

pub members-next : (d : Data) (ds : Items) (i k rest : ℕ) (r : Option ℕ) (p : Path) → SoughtIn d k (Some rest) [] → SoughtInMembers ds (i + 1) rest r p → SoughtInMembers (item d ds) i k r p
members-next d ds i k rest (Some left) p first s = λ enclosing heads ns new h.
    let t = members-ok d ds enclosing heads ns new h in
    let far = first enclosing heads t.front (t.a, t.first) in
    far-left t.front t.back new k rest left t.is far (s enclosing (heads ++ heads_of t.front) t.c t.back t.second)
members-next d ds i k rest None p first s = λ enclosing heads ns new h.
    let t = members-ok d ds enclosing heads ns new h in
    let far = first enclosing heads t.front (t.a, t.first) in
    let l = s enclosing (heads ++ heads_of t.front) t.c t.back t.second in
    let m = l.1 in (
      far-below t.front t.back new k rest t.is far l.0,
      record {
        j = suc m.j;
        member = m.member;
        more = m.more;
        rest = m.rest;
        at = next_member t.first m.at;
        path_is = m.path_is ∙ (let same : (i + 1) + m.j ≡ i + suc m.j = omega arith in ap (λ (j : ℕ). steps.At j ∷ m.rest) same);
        found = moved (schema m.member enclosing m.more) _ (length heads + k) _ (slice_get new k) m.rest (far-number heads t.front k rest far) (far-draft t.front t.back new k rest t.is far) m.found;
      },
    )

pub members-end : (i k : ℕ) → SoughtInMembers no_items i k (Some k) []
unfolding members
members-end i k enclosing heads ns new h = subst (λ (ks : List Draft). length ks + k ≡ k) (ap new_of h) (omega arith)

-- ---- fields

fields-ok : (d : Data) (ds : Items) (before : List (List ℕ)) (enclosing : List ℕ) (heads : List Head) (fs : List DraftField) (new : List Draft) → fields_after (item d ds) before enclosing heads ≡ Ok (fs, new) → InTwo (field d before) (λ f. fields_after ds (before ++ f.name ∷ [])) enclosing heads new
unfolding fields_after
fields-ok d ds before enclosing heads fs new h = in-two (field d before) (λ f. fields_after ds (before ++ f.name ∷ [])) (λ f more. f ∷ more) enclosing heads fs new h

pub fields-this : (d : Data) (ds : Items) (i k : ℕ) (p : Path) → Behind (steps.At i) (SoughtInField d k) None p → SoughtInFields (item d ds) i k None p
fields-this d ds i k p (q, e, s) before enclosing heads fs new h =
    let t = fields-ok d ds before enclosing heads fs new h in
    let l = s before enclosing heads t.front (t.a, t.first) in (
      here-below t.front t.back new k t.is l.0,
      record {
        j = 0;
        field = field_after before d enclosing heads;
        rest = q;
        at = first_field;
        path_is = e ∙ (let same : i ≡ i + 0 = omega arith in ap (λ (j : ℕ). steps.At j ∷ q) same);
        found = moved (field_after before d enclosing heads) (length heads + k) (length heads + k) (slice_get t.front k) (slice_get new k) q refl (here-draft t.front t.back new k t.is l.0) l.1;
      },
    )

pub fields-next : (d : Data) (ds : Items) (i k rest : ℕ) (r : Option ℕ) (p : Path) → SoughtInField d k (Some rest) [] → SoughtInFields ds (i + 1) rest r p → SoughtInFields (item d ds) i k r p
fields-next d ds i k rest (Some left) p first s = λ before enclosing heads fs new h.
    let t = fields-ok d ds before enclosing heads fs new h in
    let far = first before enclosing heads t.front (t.a, t.first) in
    far-left t.front t.back new k rest left t.is far (s (before ++ t.a.name ∷ []) enclosing (heads ++ heads_of t.front) t.c t.back t.second)
fields-next d ds i k rest None p first s = λ before enclosing heads fs new h.
    let t = fields-ok d ds before enclosing heads fs new h in
    let far = first before enclosing heads t.front (t.a, t.first) in
    let l = s (before ++ t.a.name ∷ []) enclosing (heads ++ heads_of t.front) t.c t.back t.second in
    let m = l.1 in (
      far-below t.front t.back new k rest t.is far l.0,
      record {
        j = suc m.j;
        field = m.field;
        rest = m.rest;
        at = next_field t.first m.at;
        path_is = m.path_is ∙ (let same : (i + 1) + m.j ≡ i + suc m.j = omega arith in ap (λ (j : ℕ). steps.At j ∷ m.rest) same);
        found = moved m.field _ (length heads + k) _ (slice_get new k) m.rest (far-number heads t.front k rest far) (far-draft t.front t.back new k rest t.is far) m.found;
      },
    )

pub fields-end : (i k : ℕ) → SoughtInFields no_items i k (Some k) []
unfolding fields_after
fields-end i k before enclosing heads fs new h = subst (λ (ks : List Draft). length ks + k ≡ k) (ap new_of h) (omega arith)

-- ---- items of a list of values

pub rest_is : (vs : List Value) (i : ℕ) (v : Value) → i < length vs → v ≡ get_or vs i v → items_view (drop i vs) ≡ item (view v) (items_view (drop (i + 1) vs))
rest_is vs i v lt is = let here : drop i vs ≡ v ∷ drop (i + 1) vs = drop-cons vs i v lt ∙ rw (← is, add-one i) in rw here refl

pub rest_ends : (vs : List Value) (i : ℕ) → length vs ≤ i → items_view (drop i vs) ≡ no_items
rest_ends vs i le = rw (drop_of_length-le vs le) refl
