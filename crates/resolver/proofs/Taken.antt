-- A field without a partner by name is taken by an alias, where a reader's field is free to take it.
use Rattle.std.proofs.Common.{◌≡◌, ℕ, zero, suc, ◌+◌, Bool, true, false, cond, ◌||◌, List, [], ◌∷◌, map, Option, Some, None, is_none, is_some, refl, sym, ap, subst, ◌∙◌, slice_get, slice_index_or, slice_set, arith}
use Rattle.std.specs.Str.{bytes_eq}
use Rattle.std.proofs.lemmas.Slice.Eq.{bytes_eq-Decides}
use Rattle.avro_types.specs.Laws.Placed.{none-used, place-some}
use Rattle.spec_avro.specs.Node.{FieldNode}
use Rattle.spec_avro.specs.Symbols.{is_used, place_of}
use Rattle.spec_avro.specs.Options.{or_else}
use Rattle.spec_avro.specs.Partners.{AliasesAreTaken, by_alias, by_name, field_names, first_free, if_free, taken_by, with_aliases}
use Rattle.resolver.proofs.Apart.{name_at, one_place}
use Rattle.resolver.proofs.Holding.{used_there}
use Rattle.resolver.proofs.Partnering.{all_keep, freely}

-- ---- lists

pub set_there : {X : Type 0} (xs : List X) (n : ℕ) (x y : X) → slice_get xs n ≡ Some y → slice_get (slice_set xs n x) n ≡ Some x
set_there [] n x y e = absurd cc
set_there (z ∷ xs) zero x y e = refl
set_there (z ∷ xs) (suc n) x y e = set_there xs n x y e

set_keeps : {X : Type 0} (xs : List X) (n i : ℕ) (x y : X) → slice_get xs i ≡ Some y → (z : X) × (slice_get (slice_set xs n x) i ≡ Some z)
set_keeps [] n i x y e = absurd cc
set_keeps (w ∷ xs) zero zero x y e = (x, refl)
set_keeps (w ∷ xs) zero (suc i) x y e = (y, e)
set_keeps (w ∷ xs) (suc n) zero x y e = (y, e)
set_keeps (w ∷ xs) (suc n) (suc i) x y e = set_keeps xs n i x y e

pub free_at : (ps : List (Option ℕ)) (i : ℕ) → slice_get ps i ≡ Some None → is_none (slice_index_or ps i None) ≡ true
free_at [] i e = absurd cc
free_at (p ∷ ps) zero e = ap is_none (let same : p ≡ None = cc in same)
free_at (p ∷ ps) (suc i) e = free_at ps i e

-- ---- one reader's field

-- for each name there is a place
abbrev pub ArePlaces : List (List ℕ) → List (Option ℕ) → Type 0
ArePlaces names ps = (n : ℕ) (name : List ℕ) → slice_get names n ≡ Some name → (p : Option ℕ) × (slice_get ps n ≡ Some p)

-- the first of the names takes a position that is free
pub first_takes : (names : List (List ℕ)) (ps : List (Option ℕ)) (i : ℕ) (name : List ℕ) → place_of name names ≡ Some i → is_none (slice_index_or ps i None) ≡ true → (a : List ℕ) → bytes_eq a name ≡ true → if_free ps (place_of a names) ≡ Some i
first_takes names ps i name at free a e = let same : a ≡ name = (bytes_eq-Decides a name).0 e in ap (λ (x : List ℕ). if_free ps (place_of x names)) same ∙ ap (if_free ps) at ∙ ap (λ (b : Bool). cond b (Some i) None) free

some_free : (names : List (List ℕ)) (ps : List (Option ℕ)) (i : ℕ) (name : List ℕ) → place_of name names ≡ Some i → is_none (slice_index_or ps i None) ≡ true → (aliases : List (List ℕ)) → is_used name aliases ≡ true → (n : ℕ) × (first_free names ps aliases ≡ Some n)
some_free names ps i name at free [] used = absurd cc
some_free names ps i name at free (a ∷ aliases) used = by_first (λ u. some_free names ps i name at free aliases u) (if_free ps (place_of a names)) refl where
  later : (b : Bool) → bytes_eq a name ≡ b → (b || is_used name aliases) ≡ true → if_free ps (place_of a names) ≡ None → is_used name aliases ≡ true
  later true is h none = absurd (let clash : Some i ≡ None = sym (first_takes names ps i name at free a is) ∙ none in cc)
  later false is h none = h

  by_first : (is_used name aliases ≡ true → (n : ℕ) × (first_free names ps aliases ≡ Some n)) → (o : Option ℕ) → if_free ps (place_of a names) ≡ o → (n : ℕ) × (or_else (if_free ps (place_of a names)) (first_free names ps aliases) ≡ Some n)
  by_first next None is =
      let rest = next (later (bytes_eq a name) refl used is) in
      (rest.0, ap (λ (o : Option ℕ). or_else o (first_free names ps aliases)) is ∙ rest.1)
  by_first next (Some n) is = (n, ap (λ (o : Option ℕ). or_else o (first_free names ps aliases)) is)

takes : (names : List (List ℕ)) (ps : List (Option ℕ)) (i : ℕ) (name : List ℕ) (g : FieldNode) → place_of name names ≡ Some i → slice_get ps i ≡ Some None → place_of g.name names ≡ None → is_used name g.aliases ≡ true → (n : ℕ) × (by_alias names ps g ≡ Some n)
takes names ps i name g at free unnamed used =
    let found = some_free names ps i name at (free_at ps i free) g.aliases used in
    (found.0, ap (λ (o : Option ℕ). cond (is_some o) None (first_free names ps g.aliases)) unnamed ∙ found.1)

-- ---- all of them

module _ (names : List (List ℕ)) (i : ℕ) (name : List ℕ) (at : place_of name names ≡ Some i) where
  pub still : (count : ℕ) (o : Option ℕ) (ps : List (Option ℕ)) → ArePlaces names ps → ArePlaces names (taken_by count o ps)
  still count None ps places = places
  still count (Some n) ps places = λ k other e. let p = places k other e in set_keeps ps n k (Some count) p.0 p.1

  free_before : (rs : List FieldNode) (count : ℕ) (ps : List (Option ℕ)) (o : Option ℕ) → slice_get ps i ≡ Some o → slice_get (with_aliases names ps count rs) i ≡ Some None → slice_get ps i ≡ Some None
  free_before rs count ps None here last = here
  free_before rs count ps (Some j) here last = absurd (let clash : Some (Some j) ≡ Some None = sym (all_keep names rs count ps i j here) ∙ last in cc)

  all_take : (rs : List FieldNode) (count : ℕ) (ps : List (Option ℕ)) (j : ℕ) (g : FieldNode) → ArePlaces names ps → slice_get rs j ≡ Some g → place_of g.name names ≡ None → is_used name g.aliases ≡ true → slice_get (with_aliases names ps count rs) i ≡ Some None → (k : ℕ) × (slice_get (with_aliases names ps count rs) k ≡ Some (Some (count + j)))
  all_take [] count ps j g places e unnamed used last = absurd cc
  all_take (r ∷ rs) count ps zero g places e unnamed used last =
      let same : g ≡ r = cc in
      let here = places i name (place-some name names i at) in
      let free = free_before (r ∷ rs) count ps here.0 here.1 last in
      let taken = takes names ps i name r at free (subst (λ (x : FieldNode). place_of x.name names ≡ None) same unnamed) (subst (λ (x : FieldNode). is_used name x.aliases ≡ true) same used) in
      let is = freely names ps r taken.0 taken.1 in
      let there = places taken.0 is.name is.named in
      let set : slice_get (taken_by count (by_alias names ps r) ps) taken.0 ≡ Some (Some count) = ap (λ (o : Option ℕ). slice_get (taken_by count o ps) taken.0) taken.1 ∙ set_there ps taken.0 (Some count) there.0 there.1 in
      let number : count ≡ count + 0 = omega arith in
      (taken.0, all_keep names rs (suc count) (taken_by count (by_alias names ps r) ps) taken.0 count set ∙ ap (λ (m : ℕ). Some (Some m)) number)
  all_take (r ∷ rs) count ps (suc j) g places e unnamed used last =
      let rest = all_take rs (suc count) (taken_by count (by_alias names ps r) ps) j g (still count (by_alias names ps r) ps places) e unnamed used last in
      let number : suc count + j ≡ count + suc j = omega arith in
      (rest.0, rest.1 ∙ ap (λ (m : ℕ). Some (Some m)) number)

-- where names are distinct, a name's place is its index
pub only_place : (names : List (List ℕ)) (i : ℕ) (name : List ℕ) → ((k : ℕ) → slice_get names k ≡ Some name → k ≡ i) → slice_get names i ≡ Some name → (o : Option ℕ) → place_of name names ≡ o → place_of name names ≡ Some i
only_place names i name one at None is = absurd (let clash : true ≡ false = sym (used_there name names i at) ∙ none-used name names is in cc)
only_place names i name one at (Some n) is = is ∙ ap (λ (k : ℕ). Some k) (one n (place-some name names n is))

pub by_name_places : (others : List (List ℕ)) (ws : List FieldNode) → ArePlaces (field_names ws) (map (λ f. place_of f.name others) ws)
by_name_places others [] n name e = absurd cc
by_name_places others (w ∷ ws) zero name e = (place_of w.name others, refl)
by_name_places others (w ∷ ws) (suc n) name e = by_name_places others ws n name e

pub aliases_are_taken : AliasesAreTaken
aliases_are_taken ws rs i j f g distinct here last there unnamed used =
    let names = field_names ws in
    let stands = name_at ws i f here in
    let at = only_place names i f.name (λ k e. one_place names k i f.name distinct e stands) stands (place_of f.name names) refl in
    let taken = all_take names i f.name at rs 0 (by_name ws rs) j g (by_name_places (field_names rs) ws) there unnamed used last in
    let number : 0 + j ≡ j = omega arith in
    (taken.0, taken.1 ∙ ap (λ (m : ℕ). Some (Some m)) number)
