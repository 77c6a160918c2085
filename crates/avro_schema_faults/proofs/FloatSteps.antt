-- Steps to a number that no schema may have.
use Rattle.std.proofs.Common.{◌≡◌, ◌<◌, ◌≤◌, ◌+◌, ◌⊎◌, inl, inr, ℕ, zero, suc, List, [], ◌∷◌, ◌++◌, length, get_or, true, false, is_some, Option, Some, None, Result, Ok, Err, arith, refl, sym, ap, subst, ◌∙◌, codes, append_assoc, append-nil}
use Rattle.std.specs.Prelude.{OnOk}
use Rattle.serde_json.specs.Data.{Data, array, object, string, null, boolean, number, Items, item, no_items, depth, items_depth}
use Rattle.serde_json.specs.Find.{as_array, as_object, get_item}
use Rattle.serde_json.specs.View.{view, items_view}
use Rattle.serde_json.specs.Written.{has_float}
use Rattle.serde_json.specs.declared.value.Value.{Value}
use Rattle.avro_schema_names.proofs.Depths.{found-depth}
use Rattle.avro_schema_paths.specs.Following.{step_in}
use Rattle.avro_schema_paths.specs.Places.{Path}
use Rattle.avro_schema_paths.specs.declared.step.Step.{Step}
use Rattle.avro_schema_paths.specs.declared.step.Step.TheVariants as steps
use Rattle.avro_schema_faults.specs.Fractions.{EndsAtFraction, HasNoFloatNear, LeadsToFloat, has_float_at, here, within}
use Rattle.avro_schema_faults.proofs.FirstBad.{less-or-same}

-- ---- elements

pub item-is : (vs : List Value) (i : ℕ) (v : Value) → i < length vs → v ≡ get_or vs i v → get_item i (items_view vs) ≡ Some (view v)
item-is [] i v lt is = absurd (omega (arith, lt))
item-is (x ∷ vs) zero v lt is = ap (λ (y : Value). Some (view y)) (sym is)
item-is (x ∷ vs) (suc i) v lt is = item-is vs i v (omega (arith, lt)) is

item-none : (vs : List Value) (i : ℕ) → length vs ≤ i → get_item i (items_view vs) ≡ None
item-none [] i le = refl
item-none (x ∷ vs) zero le = absurd (omega (arith, le))
item-none (x ∷ vs) (suc i) le = item-none vs i (omega (arith, le))

-- none of these first elements has one
abbrev pub HasNone : List Value → ℕ → Type 0
HasNone vs i = (j : ℕ) → j < i → has_float_at (get_item j (items_view vs)) ≡ false

pub none-first : (vs : List Value) → HasNone vs 0
none-first vs j lt = absurd (omega (arith, lt))

pub none-next : (vs : List Value) (i : ℕ) (v : Value) → i < length vs → v ≡ get_or vs i v → false ≡ has_float (view v) → HasNone vs i → HasNone vs (i + 1)
none-next vs i v lt is fails before j below = go (less-or-same j i (omega (arith, below))) where
  go : (j < i) ⊎ (j ≡ i) → has_float_at (get_item j (items_view vs)) ≡ false
  go (inl less) = before j less
  go (inr same) = ap (λ (k : ℕ). has_float_at (get_item k (items_view vs))) same ∙ ap has_float_at (item-is vs i v lt is) ∙ sym fails

pub some-here : (vs : List Value) (i : ℕ) (v : Value) → i < length vs → v ≡ get_or vs i v → true ≡ has_float (view v) → LeadsToFloat (Some (steps.At i)) (array (items_view vs))
some-here vs i v lt is holds = ap has_float_at (item-is vs i v lt is) ∙ sym holds

below-or : (j i : ℕ) → (j < i) ⊎ (i ≤ j)
below-or j zero = inr (omega arith)
below-or zero (suc i) = inl (omega arith)
below-or (suc j) (suc i) = up (below-or j i) where
  up : (j < i) ⊎ (i ≤ j) → (suc j < suc i) ⊎ (suc i ≤ suc j)
  up (inl lt) = inl (omega (arith, lt))
  up (inr le) = inr (omega (arith, le))

pub none-all : (vs : List Value) (i : ℕ) → length vs ≤ i → HasNone vs i → HasNoFloatNear (array (items_view vs))
none-all vs i le none steps.Type = refl
none-all vs i le none steps.Items = refl
none-all vs i le none steps.Values = refl
none-all vs i le none steps.Fields = refl
none-all vs i le none (steps.At j) = go (below-or j i) where
  go : (j < i) ⊎ (i ≤ j) → has_float_at (get_item j (items_view vs)) ≡ false
  go (inl lt) = none j lt
  go (inr far) = ap has_float_at (item-none vs j (omega (arith, le, far)))

-- ---- attributes

pub none-in_object : (d : Data) → true ≡ is_some (as_object d) → false ≡ has_float_at (step_in steps.Type d) → false ≡ has_float_at (step_in steps.Items d) → false ≡ has_float_at (step_in steps.Values d) → false ≡ has_float_at (step_in steps.Fields d) → HasNoFloatNear d
none-in_object (object ms) is a b c e steps.Type = sym a
none-in_object (object ms) is a b c e steps.Items = sym b
none-in_object (object ms) is a b c e steps.Values = sym c
none-in_object (object ms) is a b c e steps.Fields = sym e
none-in_object (object ms) is a b c e (steps.At i) = refl
none-in_object d is a b c e s = absurd (let no : ⊥ = cc in no)

pub none-in_plain : (d : Data) → false ≡ is_some (as_object d) → None ≡ as_array d → HasNoFloatNear d
none-in_plain (object ms) plain none s = absurd (let no : ⊥ = cc in no)
none-in_plain (array ds) plain none s = absurd (let no : ⊥ = cc in no)
none-in_plain null plain none s = plain-at null refl s where
  plain-at : (d : Data) → d ≡ null → (s : Step) → has_float_at (step_in s null) ≡ false
  plain-at d e steps.Type = refl
  plain-at d e steps.Items = refl
  plain-at d e steps.Values = refl
  plain-at d e steps.Fields = refl
  plain-at d e (steps.At i) = refl
none-in_plain (boolean b) plain none steps.Type = refl
none-in_plain (boolean b) plain none steps.Items = refl
none-in_plain (boolean b) plain none steps.Values = refl
none-in_plain (boolean b) plain none steps.Fields = refl
none-in_plain (boolean b) plain none (steps.At i) = refl
none-in_plain (number n) plain none steps.Type = refl
none-in_plain (number n) plain none steps.Items = refl
none-in_plain (number n) plain none steps.Values = refl
none-in_plain (number n) plain none steps.Fields = refl
none-in_plain (number n) plain none (steps.At i) = refl
none-in_plain (string t) plain none steps.Type = refl
none-in_plain (string t) plain none steps.Items = refl
none-in_plain (string t) plain none steps.Values = refl
none-in_plain (string t) plain none steps.Fields = refl
none-in_plain (string t) plain none (steps.At i) = refl

pub in-array : (d : Data) (ds : Items) (s : Option Step) → Some ds ≡ as_array d → LeadsToFloat s (array ds) → LeadsToFloat s d
in-array (array es) ds s is h = let same : ds ≡ es = cc in subst (λ (xs : Items). LeadsToFloat s (array xs)) same h
in-array d ds s is h = absurd (let no : ⊥ = cc in no)

-- ---- one step

item-deep : (i : ℕ) (ds : Items) (c : Data) → get_item i ds ≡ Some c → depth c ≤ items_depth ds
item-deep i no_items c e = absurd (let no : ⊥ = cc in no)
item-deep zero (item d ds) c e = let same : d ≡ c = cc in let l = ap depth same in omega (arith, l)
item-deep (suc i) (item d ds) c e = let l = item-deep i ds c e in omega (arith, l)

pub step-depth : (s : Step) (d c : Data) → Some c ≡ step_in s d → suc (depth c) ≤ depth d
step-depth steps.Type d c e = found-depth (codes "type") (Some c) d e
step-depth steps.Items d c e = found-depth (codes "items") (Some c) d e
step-depth steps.Values d c e = found-depth (codes "values") (Some c) d e
step-depth steps.Fields d c e = found-depth (codes "fields") (Some c) d e
step-depth (steps.At i) (array ds) c e = let l = item-deep i ds c (sym e) in omega (arith, l)
step-depth (steps.At i) d c e = absurd (let no : ⊥ = cc in no)

pub float-there : (s : Step) (d c : Data) → Some c ≡ step_in s d → has_float_at (step_in s d) ≡ true → has_float c ≡ true
float-there s d c e h = ap has_float_at e ∙ h

pub no-float-there : (s : Step) (d : Data) → None ≡ step_in s d → has_float_at (step_in s d) ≡ true → ⊥
no-float-there s d e h = let f : false ≡ true = ap has_float_at e ∙ h in let no : ⊥ = cc in no

pub fraction-here : (d : Data) (before : Path) → has_float d ≡ true → HasNoFloatNear d → EndsAtFraction d before before
fraction-here d before holds near = record { path = []; is = sym (append-nil before); fraction = here holds near }

pub fraction-within : {A E : Type 0} (result : Result A E) (s : Step) (d c : Data) (before pushed after : Path) → Some c ≡ step_in s d → pushed ≡ before ++ s ∷ [] → OnOk result (EndsAtFraction c pushed after) → OnOk result (EndsAtFraction d before after)
fraction-within (Ok a) s d c before pushed after there is h =
    record { path = s ∷ h.path; is = h.is ∙ ap (λ (b : Path). b ++ h.path) is ∙ append_assoc before (s ∷ []) h.path; fraction = within (sym there) h.fraction }
fraction-within (Err e) s d c before pushed after there is h = tt
