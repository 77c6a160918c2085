-- The first member of a reader's union that matches, found by the positions of candidates.
use Rattle.std.proofs.Common.{◌≡◌, ℕ, zero, suc, ◌+◌, ◌<◌, ◌≤◌, min, Bool, true, false, eqb, cond, ◌||◌, ◌&&◌, List, [], ◌∷◌, length, take, get_or, Option, Some, None, refl, sym, ap, ◌∙◌, arith, add-one}
use Rattle.std.specs.Prelude.{slice_get, IfSome}
use Rattle.std.specs.List.{position_from}
use Rattle.std.proofs.lemmas.Bool.{eqb-true}
use Rattle.std.proofs.lemmas.Bool.Decides.{nat_tests}
use Rattle.std.proofs.lemmas.List.Folds.{list_any_more}
use Rattle.spec_avro.specs.Matching.{first_member}
use Rattle.spec_avro.specs.Options.{or_else}
use Rattle.spec_avro.specs.declared.place.Destination.TheVariants.{IntoMember, Nowhere}
use Rattle.program_compiler.specs.Members.{least}
use Rattle.program_compiler.specs.NamedTypes.{is_among}

-- ---- positions, one after another

pub position_more : (test : ℕ → Bool) (from : ℕ) (xs : List ℕ) (i d : ℕ) → i < length xs
    → position_from test from (take (suc i) xs) ≡ or_else (position_from test from (take i xs)) (cond (test (get_or xs i d)) (Some (from + i)) None)
position_more test from [] i d lt = absurd (omega (arith, lt))
position_more test from (x ∷ xs) zero d lt = ap (λ n. cond (test x) (Some n) None) (let z : from ≡ from + 0 = omega arith in z)
position_more test from (x ∷ xs) (suc i) d lt =
    let rest = position_from test (from + 1) (take i xs) in
    which (test x) (position_from test (from + 1) (take (suc i) xs)) rest (cond (test (get_or xs i d)) (Some (from + suc i)) None)
    (position_more test (from + 1) xs i d (omega (arith, lt)) ∙ ap (λ n. or_else rest (cond (test (get_or xs i d)) (Some n) None)) (let z : from + 1 + i ≡ from + suc i = omega arith in z))
  where
    which : (b : Bool) (o p q : Option ℕ) → o ≡ or_else p q → cond b (Some from) o ≡ or_else (cond b (Some from) p) q
    which true o p q e = refl
    which false o p q e = e

-- one member more
pub positions_on : (node : ℕ) (members : List ℕ) (i : ℕ) (old new : Option ℕ) → i < length members → old ≡ position_from (λ member. eqb member node) 0 (take i members)
    → new ≡ or_else old (cond (eqb (get_or members i 0) node) (Some i) None) → new ≡ position_from (λ member. eqb member node) 0 (take (i + 1) members)
positions_on node members i old new lt so_far put =
    let test : ℕ → Bool = λ member. eqb member node in
    put ∙ ap (λ o. or_else o (cond (test (get_or members i 0)) (Some i) None)) so_far
    ∙ sym (ap (λ k. position_from test 0 (take k members)) (add-one i) ∙ position_more test 0 members i 0 lt
    ∙ ap (λ k. or_else (position_from test 0 (take i members)) (cond (test (get_or members i 0)) (Some k) None)) (let z : 0 + i ≡ i = omega arith in z))

not_before : (test : ℕ → Bool) (i : ℕ) (xs : List ℕ) → IfSome (position_from test i xs) (λ p. i ≤ p)
not_before test i [] = tt
not_before test i (x ∷ xs) = which (test x) (position_from test (i + 1) xs) (not_before test (i + 1) xs)
  where
    which : (b : Bool) (o : Option ℕ) → IfSome o (λ p. i + 1 ≤ p) → IfSome (cond b (Some i) o) (λ p. i ≤ p)
    which true o later = omega arith
    which false None later = tt
    which false (Some p) later = omega (arith, later)

-- ---- one candidate more

step : (here one match own : Bool) (i : ℕ) (rest before at : Option ℕ) → (one ≡ true → match ≡ own) → IfSome before (λ p. i + 1 ≤ p) → IfSome at (λ p. i + 1 ≤ p) → rest ≡ least before (cond own at None)
    → cond ((here || one) && match) (Some i) rest ≡ least (cond (here && match) (Some i) before) (cond own (cond one (Some i) at) None)
step true true true true i rest before at same later behind e = let z : i ≡ min i i = omega arith in ap Some z
step true false true true i rest before None same later behind e = refl
step true false true true i rest before (Some p) same later behind e = let z : i ≡ min i p = omega (arith, behind) in ap Some z
step true one true false i rest before at same later behind e = refl
step false true true true i rest None at same later behind e = refl
step false true true true i rest (Some p) at same later behind e = let z : i ≡ min p i = omega (arith, later) in ap Some z
step false true true false i rest before at same later behind e = absurd (let no : true ≡ false = same refl in cc)
step false false true own i rest before at same later behind e = e
step here true false true i rest before at same later behind e = absurd (let no : false ≡ true = same refl in cc)
step true true false false i rest before at same later behind e = e
step false true false false i rest before at same later behind e = e
step true false false own i rest before at same later behind e = e
step false false false own i rest before at same later behind e = e

module _ (match among more : ℕ → Bool) (c : ℕ) (each : (m : ℕ) → more m ≡ (among m || eqb c m)) where
  first_more : (i : ℕ) (ms : List ℕ) → position_from (λ m. more m && match m) i ms ≡ least (position_from (λ m. among m && match m) i ms) (cond (match c) (position_from (λ m. eqb m c) i ms) None)
  first_more i [] = nothing (match c)
    where
      nothing : (b : Bool) → ◌≡◌ {A = Option ℕ} None (cond b None None)
      nothing true = refl
      nothing false = refl
  first_more i (m ∷ ms) =
      ap (λ b. cond (b && match m) (Some i) (position_from (λ m. more m && match m) (i + 1) ms)) (each m ∙ ap (λ b. among m || b) (let turned : eqb c m ≡ eqb m c = grind (arith, nat_tests) in turned))
      ∙ step (among m) (eqb m c) (match m) (match c) i (position_from (λ m. more m && match m) (i + 1) ms) (position_from (λ m. among m && match m) (i + 1) ms) (position_from (λ m. eqb m c) (i + 1) ms)
      (λ e. ap match (eqb-true m c e)) (not_before (λ m. among m && match m) (i + 1) ms) (not_before (λ m. eqb m c) (i + 1) ms) (first_more (i + 1) ms)

pub first_of_none : (match : ℕ → Bool) (i : ℕ) (ms : List ℕ) → None ≡ position_from (λ m. is_among m [] && match m) i ms
first_of_none match i [] = refl
first_of_none match i (m ∷ ms) = first_of_none match (i + 1) ms

pub first_on : (match : ℕ → Bool) (candidates : List ℕ) (k d : ℕ) (ms : List ℕ) → k < length candidates
    → position_from (λ m. is_among m (take (k + 1) candidates) && match m) 0 ms
    ≡ least (position_from (λ m. is_among m (take k candidates) && match m) 0 ms) (cond (match (get_or candidates k d)) (position_from (λ m. eqb m (get_or candidates k d)) 0 ms) None)
first_on match candidates k d ms lt =
    first_more match (λ m. is_among m (take k candidates)) (λ m. is_among m (take (k + 1) candidates)) (get_or candidates k d) (λ m. list_any_more (λ other. eqb other m) candidates k d lt) 0 ms

-- ---- the member at the first position

pub first_none : (test : ℕ → Bool) (i : ℕ) (ms : List ℕ) → position_from test i ms ≡ None → first_member test i ms ≡ Nowhere
first_none test i [] none = refl
first_none test i (m ∷ ms) none = which (test m) (λ e. ap (λ k. first_member test k ms) (let z : suc i ≡ i + 1 = omega arith in z) ∙ first_none test (i + 1) ms e) none
  where
    which : (b : Bool) → (position_from test (i + 1) ms ≡ None → first_member test (suc i) ms ≡ Nowhere) → cond b (Some i) (position_from test (i + 1) ms) ≡ None → cond b (IntoMember i m) (first_member test (suc i) ms) ≡ Nowhere
    which true rest e = absurd (let no : ⊥ = cc in no)
    which false rest e = rest e

-- the member of a position is the first that passes the test
pub record IsFirst (test : ℕ → Bool) (i : ℕ) (ms : List ℕ) (p : ℕ) : Type 0 where
  pub steps : ℕ
  pub at : p ≡ i + steps
  pub below : steps < length ms
  pub place : first_member test i ms ≡ IntoMember p (get_or ms steps 0)

first_some : (test : ℕ → Bool) (i : ℕ) (ms : List ℕ) (p : ℕ) → position_from test i ms ≡ Some p → IsFirst test i ms p
first_some test i [] p some = absurd (let no : ⊥ = cc in no)
first_some test i (m ∷ ms) p some = which (test m) refl (λ e. first_some test (i + 1) ms p e) some
  where
    which : (b : Bool) → test m ≡ b → (position_from test (i + 1) ms ≡ Some p → IsFirst test (i + 1) ms p) → cond b (Some i) (position_from test (i + 1) ms) ≡ Some p → IsFirst test i (m ∷ ms) p
    which true is rest e =
        let here : i ≡ p = cc in
        record { steps = 0; at = omega (arith, here); below = omega arith; place = rw is (ap (λ n. IntoMember n m) here) }
    which false is rest e =
        let f = rest e in
        record { steps = suc f.steps; at = omega (arith, f.at); below = omega (arith, f.below); place = rw is (ap (λ k. first_member test k ms) (let z : suc i ≡ i + 1 = omega arith in z) ∙ f.place) }

-- from the first member on
pub first_at : (test : ℕ → Bool) (ms : List ℕ) (p : ℕ) → position_from test 0 ms ≡ Some p → (p < length ms) × (first_member test 0 ms ≡ IntoMember p (get_or ms p 0))
first_at test ms p some =
    let f = first_some test 0 ms p some in
    let same : f.steps ≡ p = omega (arith, f.at) in
    (omega (arith, f.below, same), f.place ∙ ap (λ k. IntoMember p (get_or ms k 0)) same)

pub same_first : (f g : ℕ → Bool) (i : ℕ) (ms : List ℕ) → ((j m : ℕ) → slice_get ms j ≡ Some m → f m ≡ g m) → first_member f i ms ≡ first_member g i ms
same_first f g i [] same = refl
same_first f g i (m ∷ ms) same =
    ap (λ b. cond b (IntoMember i m) (first_member f (suc i) ms)) (same 0 m refl) ∙ ap (cond (g m) (IntoMember i m)) (same_first f g (suc i) ms (λ j. same (suc j)))
