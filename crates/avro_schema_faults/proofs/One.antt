-- A fault has one place.
use Rattle.std.proofs.Common.{◌≡◌, ℕ, suc, List, [], ◌∷◌, ◌++◌, Option, Some, Result, Ok, Err, refl, sym, ap, subst, ◌∙◌, codes}
use Rattle.serde_json.specs.Data.{Data, Items}
use Rattle.serde_json.specs.Find.{get}
use Rattle.spec_avro.specs.FullNames.{namespace_of}
use Rattle.spec_avro.specs.Node.{Names}
use Rattle.spec_schema.specs.Draft.{Draft, DraftField}
use Rattle.spec_schema.specs.Head.{ArrayHead, Head, MapHead, Named, UnionHead, heads_of}
use Rattle.spec_schema.specs.declared.schema_error.SchemaError.{SchemaError}
use Rattle.spec_schema.specs.declared.word.Form.TheVariants as forms
use Rattle.avro_schema_paths.specs.Places.{Path}
use Rattle.avro_schema_paths.specs.declared.step.Step.{Step}
use Rattle.avro_schema_paths.specs.declared.step.Step.TheVariants as steps
use Rattle.spec_schema.specs.Walk.{field, walk}
use Rattle.avro_schema_faults.specs.Faults.{ComesTo, Fails, FieldAt, IsFault, MemberAt, Visit, first_field, first_member, here, listing, next_field, next_member, schema, to_field, to_fields, to_items, to_member, to_type, to_values, to_wrapped, within}
use Rattle.avro_schema_faults.proofs.Failing.{place-fails}
use Rattle.avro_schema_faults.proofs.Sound.{no_array, two_forms}

same-found : {A : Type 0} (o : Option A) (a b : A) → o ≡ Some a → o ≡ Some b → a ≡ b
same-found o a b e f = let same : a ≡ b = cc in same

same-ok : {A : Type 0} (r : Result A SchemaError) (a b : A) → r ≡ Ok a → r ≡ Ok b → a ≡ b
same-ok r a b e f = let same : a ≡ b = cc in same

ok-or-err : {A : Type 0} (r : Result A SchemaError) (a : A) (e : SchemaError) → r ≡ Ok a → r ≡ Err e → ⊥
ok-or-err r a e f g = let no : ⊥ = cc in no

same-member : (enclosing : List ℕ) (ds : Items) (heads : List Head) (i j : ℕ) (d c : Data) (more most : List Head) (e x : SchemaError) → MemberAt enclosing ds heads i d more → walk d enclosing more ≡ Err e → MemberAt enclosing ds heads j c most → walk c enclosing most ≡ Err x
    → (i ≡ j) × (schema d enclosing more ≡ schema c enclosing most)
same-member enclosing ds heads i j d c more most e x first_member bad first_member worse = (refl, refl)
same-member enclosing ds heads i j d c more most e x first_member bad (next_member ran at) worse = absurd (ok-or-err _ _ e ran bad)
same-member enclosing ds heads i j d c more most e x (next_member ran at) bad first_member worse = absurd (ok-or-err _ _ x ran worse)
same-member enclosing ds heads i j d c more most e x (next_member {c = b} {ds = rest} {n = n} {i = k} {added = added} ran at) bad (next_member {n = m} {i = l} {added = new} run there) worse =
    let both = same-ok (walk b enclosing heads) (n, added) (m, new) ran run in
    let same : new ≡ added = sym (ap (λ (p : ℕ × List Draft). p.1) both) in
    let h = same-member enclosing rest (heads ++ heads_of added) k l d c more most e x at bad (subst (λ (xs : List Draft). MemberAt enclosing rest (heads ++ heads_of xs) l c most) same there) worse in
    (ap suc h.0, h.1)

same-field : (enclosing : List ℕ) (ds : Items) (before : List (List ℕ)) (heads : List Head) (i j : ℕ) (w u : Visit) (e x : SchemaError) → FieldAt enclosing ds before heads i w → Fails e w → FieldAt enclosing ds before heads j u → Fails x u → (i ≡ j) × (w ≡ u)
same-field enclosing ds before heads i j w u e x first_field bad first_field worse = (refl, refl)
same-field enclosing ds before heads i j w u e x first_field bad (next_field ran at) worse = absurd (ok-or-err _ _ e ran bad)
same-field enclosing ds before heads i j w u e x (next_field ran at) bad first_field worse = absurd (ok-or-err _ _ x ran worse)
same-field enclosing ds before heads i j w u e x (next_field {c = b} {ds = rest} {f = f} {i = k} {added = added} ran at) bad (next_field {f = g} {i = l} {added = new} run there) worse =
    let both = same-ok (field b before enclosing heads) (f, added) (g, new) ran run in
    let h = same-field enclosing rest (before ++ f.name ∷ []) (heads ++ heads_of added) k l w u e x at bad
    (subst (λ (p : DraftField × List Draft). FieldAt enclosing rest (before ++ p.0.name ∷ []) (heads ++ heads_of p.1) l u) (sym both) there) worse in
    (ap suc h.0, h.1)

same-step : (v w u : Visit) (s t : Step) (e x : SchemaError) → ComesTo v s w → Fails e w → ComesTo v t u → Fails x u → (s ≡ t) × (w ≡ u)
same-step v w u s t e x (to_member {ds = ds} {enclosing = enclosing} {heads = heads} {more = more} {i = i} {d = d} room at) bad (to_member {more = most} {i = j} {d = c} room2 there) worse =
    let h = same-member enclosing ds (heads ++ UnionHead ∷ []) i j d c more most e x at bad there worse in
    (ap (λ (k : ℕ). steps.At k) h.0, h.1)
same-step v w u s t e x (to_member {ds = ds} room2 at) bad (to_items form room found) worse = absurd (no_array ds forms.Array form)
same-step v w u s t e x (to_member {ds = ds} room2 at) bad (to_values form room found) worse = absurd (no_array ds forms.Map form)
same-step v w u s t e x (to_member {ds = ds} room2 at) bad (to_wrapped form found) worse = absurd (no_array ds forms.Other form)
same-step v w u s t e x (to_member {ds = ds} room2 at) bad (to_fields form room named found) worse = absurd (no_array ds forms.Record form)
same-step v w u s t e x (to_items form room found) bad (to_member {ds = ds} room2 at) worse = absurd (no_array ds forms.Array form)
same-step v w u s t e x (to_items {d = d} {c = c} {enclosing = enclosing} {heads = heads} form room found) bad (to_items {c = b} form2 room2 found2) worse = (refl, ap (λ (y : Data). schema y enclosing (heads ++ ArrayHead ∷ [])) (same-found (get (codes "items") d) c b found found2))
same-step v w u s t e x (to_items {d = d} form room found) bad (to_values form2 room2 found2) worse = absurd (let same = two_forms d forms.Array forms.Map form form2 in let no : ⊥ = cc in no)
same-step v w u s t e x (to_items {d = d} form room found) bad (to_wrapped form2 found2) worse = absurd (let same = two_forms d forms.Array forms.Other form form2 in let no : ⊥ = cc in no)
same-step v w u s t e x (to_items {d = d} form room found) bad (to_fields form2 room2 named2 found2) worse = absurd (let same = two_forms d forms.Array forms.Record form form2 in let no : ⊥ = cc in no)
same-step v w u s t e x (to_values form room found) bad (to_member {ds = ds} room2 at) worse = absurd (no_array ds forms.Map form)
same-step v w u s t e x (to_values {d = d} form room found) bad (to_items form2 room2 found2) worse = absurd (let same = two_forms d forms.Map forms.Array form form2 in let no : ⊥ = cc in no)
same-step v w u s t e x (to_values {d = d} {c = c} {enclosing = enclosing} {heads = heads} form room found) bad (to_values {c = b} form2 room2 found2) worse = (refl, ap (λ (y : Data). schema y enclosing (heads ++ MapHead ∷ [])) (same-found (get (codes "values") d) c b found found2))
same-step v w u s t e x (to_values {d = d} form room found) bad (to_wrapped form2 found2) worse = absurd (let same = two_forms d forms.Map forms.Other form form2 in let no : ⊥ = cc in no)
same-step v w u s t e x (to_values {d = d} form room found) bad (to_fields form2 room2 named2 found2) worse = absurd (let same = two_forms d forms.Map forms.Record form form2 in let no : ⊥ = cc in no)
same-step v w u s t e x (to_wrapped form found) bad (to_member {ds = ds} room2 at) worse = absurd (no_array ds forms.Other form)
same-step v w u s t e x (to_wrapped {d = d} form found) bad (to_items form2 room2 found2) worse = absurd (let same = two_forms d forms.Other forms.Array form form2 in let no : ⊥ = cc in no)
same-step v w u s t e x (to_wrapped {d = d} form found) bad (to_values form2 room2 found2) worse = absurd (let same = two_forms d forms.Other forms.Map form form2 in let no : ⊥ = cc in no)
same-step v w u s t e x (to_wrapped {d = d} {c = c} {enclosing = enclosing} {heads = heads} form found) bad (to_wrapped {c = b} form2 found2) worse = (refl, ap (λ (y : Data). schema y enclosing heads) (same-found (get (codes "type") d) c b found found2))
same-step v w u s t e x (to_wrapped {d = d} form found) bad (to_fields form2 room2 named2 found2) worse = absurd (let same = two_forms d forms.Other forms.Record form form2 in let no : ⊥ = cc in no)
same-step v w u s t e x (to_fields form room named found) bad (to_member {ds = ds} room2 at) worse = absurd (no_array ds forms.Record form)
same-step v w u s t e x (to_fields {d = d} form room named found) bad (to_items form2 room2 found2) worse = absurd (let same = two_forms d forms.Record forms.Array form form2 in let no : ⊥ = cc in no)
same-step v w u s t e x (to_fields {d = d} form room named found) bad (to_values form2 room2 found2) worse = absurd (let same = two_forms d forms.Record forms.Map form form2 in let no : ⊥ = cc in no)
same-step v w u s t e x (to_fields {d = d} form room named found) bad (to_wrapped form2 found2) worse = absurd (let same = two_forms d forms.Record forms.Other form form2 in let no : ⊥ = cc in no)
same-step v w u s t e x (to_fields {d = d} {c = c} {enclosing = enclosing} {heads = heads} {names = names} form room named found) bad (to_fields {c = b} {names = others} form2 room2 named2 found2) worse =
    let one = same-found (get (codes "fields") d) c b found found2 in
    let two = same-ok _ names others named named2 in
    (refl, ap (λ (y : Data). listing y (namespace_of names.full) (heads ++ Named names.full ∷ [])) one ∙ ap (λ (n : Names). listing b (namespace_of n.full) (heads ++ Named n.full ∷ [])) two)
same-step v w u s t e x (to_field {ds = ds} {enclosing = enclosing} {heads = heads} {i = i} at) bad (to_field {i = j} there) worse =
    let h = same-field enclosing ds [] heads i j w u e x at bad there worse in
    (ap (λ (k : ℕ). steps.At k) h.0, h.1)
same-step v w u s t e x (to_type {d = d} {c = c} {enclosing = enclosing} {heads = heads} few named aliased found) bad (to_type {c = b} few2 named2 aliased2 found2) worse = (refl, ap (λ (y : Data). schema y enclosing heads) (same-found (get (codes "type") d) c b found found2))

pub one-place : (e x : SchemaError) (root : Visit) (q r : Path) → IsFault e root q → IsFault x root r → q ≡ r
one-place e x root q r (here fails sound) (here fails2 sound2) = refl
one-place e x root q r (here fails sound) (within {w = w} {s = s} {q = p} comes h) = absurd (sound s w x comes (place-fails x w p h))
one-place e x root q r (within {w = w} {s = s} {q = p} comes h) (here fails sound) = absurd (sound s w e comes (place-fails e w p h))
one-place e x root q r (within {v = v} {w = w} {s = s} {q = p} comes h) (within {w = u} {s = t} {q = o} goes g) =
    let same = same-step v w u s t e x comes (place-fails e w p h) goes (place-fails x u o g) in
    let rest = one-place e x w p o h (subst (λ (y : Visit). IsFault x y o) (sym same.1) g) in
    ap (λ (y : Step). y ∷ p) same.0 ∙ ap (λ (y : Path). t ∷ y) rest
