-- How far a walk of members or of fields has come.
use Rattle.std.proofs.Common.{◌≡◌, ℕ, suc, ◌+◌, ◌<◌, List, [], ◌∷◌, ◌++◌, length, drop, get_or, Ok, arith, refl, sym, subst, ◌∙◌, add-one}
use Rattle.std.proofs.Math.Seq.{drop-cons}
use Rattle.serde_json.specs.Data.{Data, Items, item}
use Rattle.serde_json.specs.View.{view, items_view}
use Rattle.serde_json.specs.declared.value.Value.{Value}
use Rattle.spec_schema.specs.Draft.{Draft, DraftField}
use Rattle.spec_schema.specs.Head.{Head, heads_of}
use Rattle.avro_schema.specs.Contract.{run}
use Rattle.spec_schema.specs.Walk.{field, walk}
use Rattle.avro_schema_faults.specs.Faults.{FieldAt, MemberAt, Visit, field_after, first_field, first_member, next_field, next_member}
use Rattle.avro_schema_faults.proofs.Bounds.{gives-after}

-- what is reached in the rest is reached in all, so far on
abbrev pub Reaches : List ℕ → Items → List Head → ℕ → Items → List Head → Type 0
Reaches enclosing rest heads i all start = (j : ℕ) (d : Data) (more : List Head) → MemberAt enclosing rest heads j d more → MemberAt enclosing all start (i + j) d more

abbrev pub ReachesField : List ℕ → Items → List (List ℕ) → List Head → ℕ → Items → List Head → Type 0
ReachesField enclosing rest before heads i all start = (j : ℕ) (w : Visit) → FieldAt enclosing rest before heads j w → FieldAt enclosing all [] start (i + j) w

pub reaches-start : (enclosing : List ℕ) (ds : Items) (heads : List Head) → Reaches enclosing ds heads 0 ds heads
reaches-start enclosing ds heads j d more m = let same : j ≡ 0 + j = omega arith in subst (λ (k : ℕ). MemberAt enclosing ds heads k d more) same m

pub reaches_field-start : (enclosing : List ℕ) (ds : Items) (heads : List Head) → ReachesField enclosing ds [] heads 0 ds heads
reaches_field-start enclosing ds heads j w m = let same : j ≡ 0 + j = omega arith in subst (λ (k : ℕ). FieldAt enclosing ds [] heads k w) same m

module _ (enclosing : List ℕ) (vs : List Value) (i : ℕ) (v : Value) (lt : i < length vs) (is : v ≡ get_or vs i v) (all : Items) (start : List Head) (ns : List Draft) where
  here : drop i vs ≡ v ∷ drop (i + 1) vs
  here = drop-cons vs i v lt ∙ rw (← is, add-one i)

  rest_is : items_view (drop i vs) ≡ item (view v) (items_view (drop (i + 1) vs))
  rest_is = rw here refl

  -- ---- members

  pub reaches-this : Reaches enclosing (items_view (drop i vs)) (heads_of ns) i all start → MemberAt enclosing all start i (view v) (heads_of ns)
  reaches-this r =
      let front = r 0 (view v) (heads_of ns) (subst (λ (ds : Items). MemberAt enclosing ds (heads_of ns) 0 (view v) (heads_of ns)) (sym rest_is) first_member) in
      let same : i + 0 ≡ i = omega arith in
      subst (λ (k : ℕ). MemberAt enclosing all start k (view v) (heads_of ns)) same front

  pub reaches-next : (n : ℕ) (ms : List Draft) → run (walk (view v)) enclosing ns ≡ Ok (n, ms) → Reaches enclosing (items_view (drop i vs)) (heads_of ns) i all start → Reaches enclosing (items_view (drop (i + 1) vs)) (heads_of ms) (i + 1) all start
  reaches-next n ms ran r j d more m =
      let g = gives-after (walk (view v)) enclosing ns n ms ran in
      let far = r (suc j) d more (subst (λ (ds : Items). MemberAt enclosing ds (heads_of ns) (suc j) d more) (sym rest_is) (next_member g.gives (rw g.heads at m))) in
      let same : i + suc j ≡ (i + 1) + j = omega arith in
      subst (λ (k : ℕ). MemberAt enclosing all start k d more) same far

  -- ---- fields

  pub reaches_field-this : (before : List (List ℕ)) → ReachesField enclosing (items_view (drop i vs)) before (heads_of ns) i all start → FieldAt enclosing all [] start i (field_after before (view v) enclosing (heads_of ns))
  reaches_field-this before r =
      let front = r 0 (field_after before (view v) enclosing (heads_of ns)) (subst (λ (ds : Items). FieldAt enclosing ds before (heads_of ns) 0 (field_after before (view v) enclosing (heads_of ns))) (sym rest_is) first_field) in
      let same : i + 0 ≡ i = omega arith in
      subst (λ (k : ℕ). FieldAt enclosing all [] start k (field_after before (view v) enclosing (heads_of ns))) same front

  pub reaches_field-next : (before : List (List ℕ)) (f : DraftField) (ms : List Draft) → run (field (view v) before) enclosing ns ≡ Ok (f, ms) → ReachesField enclosing (items_view (drop i vs)) before (heads_of ns) i all start
      → ReachesField enclosing (items_view (drop (i + 1) vs)) (before ++ f.name ∷ []) (heads_of ms) (i + 1) all start
  reaches_field-next before f ms ran r j w m =
      let g = gives-after (field (view v) before) enclosing ns f ms ran in
      let far = r (suc j) w (subst (λ (ds : Items). FieldAt enclosing ds before (heads_of ns) (suc j) w) (sym rest_is) (next_field g.gives (rw g.heads at m))) in
      let same : i + suc j ≡ (i + 1) + j = omega arith in
      subst (λ (k : ℕ). FieldAt enclosing all [] start k w) same far
