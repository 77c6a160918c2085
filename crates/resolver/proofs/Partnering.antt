-- Partners go by name first, and then by aliases.
use Rattle.std.proofs.Common.{◌≡◌, ℕ, zero, suc, ◌+◌, Bool, true, false, cond, ◌||◌, List, [], ◌∷◌, map, Option, Some, None, is_none, is_some, refl, sym, ap, subst, ◌∙◌, inl, inr, ◌⊎◌, slice_get, slice_index_or, slice_set, arith}
use Rattle.std.specs.Str.{bytes_eq}
use Rattle.std.proofs.lemmas.Slice.Eq.{bytes_eq-Decides}
use Rattle.avro_types.specs.Laws.Placed.{place-some}
use Rattle.spec_avro.specs.Node.{FieldNode}
use Rattle.spec_avro.specs.Symbols.{is_used, place_of}
use Rattle.spec_avro.specs.Options.{or_else}
use Rattle.spec_avro.specs.Partners.{NamesGoFirst, OthersGoByAlias, by_alias, by_name, field_names, first_free, if_free, taken_by, with_aliases}
use Rattle.resolver.proofs.Apart.{name_at, set_cases, unnamed}

-- a position that is free, and the name that is there
pub record IsFree (names : List (List ℕ)) (ps : List (Option ℕ)) (aliases : List (List ℕ)) (n : ℕ) : Type 0 where
  pub free : is_none (slice_index_or ps n None) ≡ true
  pub name : List ℕ
  pub named : slice_get names n ≡ Some name
  pub used : is_used name aliases ≡ true

pub free_there : (ps : List (Option ℕ)) (o : Option ℕ) (n : ℕ) → if_free ps o ≡ Some n → (o ≡ Some n) × (is_none (slice_index_or ps n None) ≡ true)
free_there ps None n e = absurd cc
free_there ps (Some i) n e = by_test (is_none (slice_index_or ps i None)) refl e where
  by_test : (b : Bool) → is_none (slice_index_or ps i None) ≡ b → cond b (Some i) None ≡ Some n → (Some i ≡ Some n) × (is_none (slice_index_or ps n None) ≡ true)
  by_test true is h = let same : i ≡ n = cc in (h, ap (λ (k : ℕ). is_none (slice_index_or ps k None)) (sym same) ∙ is)
  by_test false is h = absurd cc

free_alias : (names : List (List ℕ)) (ps : List (Option ℕ)) (aliases : List (List ℕ)) (n : ℕ) → first_free names ps aliases ≡ Some n → IsFree names ps aliases n
free_alias names ps [] n e = absurd cc
free_alias names ps (a ∷ aliases) n e = by_first (if_free ps (place_of a names)) refl e (λ h. free_alias names ps aliases n h) where
  later : IsFree names ps aliases n → IsFree names ps (a ∷ aliases) n
  later f = record { free = f.free; name = f.name; named = f.named; used = or_right (bytes_eq a f.name) (is_used f.name aliases) f.used } where
    or_right : (b c : Bool) → c ≡ true → (b || c) ≡ true
    or_right true c h = refl
    or_right false c h = h

  by_first : (o : Option ℕ) → if_free ps (place_of a names) ≡ o → or_else o (first_free names ps aliases) ≡ Some n → (first_free names ps aliases ≡ Some n → IsFree names ps aliases n) → IsFree names ps (a ∷ aliases) n
  by_first None is h rest = later (rest h)
  by_first (Some k) is h rest =
      let f = free_there ps (place_of a names) n (is ∙ h) in
      record { free = f.1; name = a; named = place-some a names n f.0; used = ap (λ (b : Bool). b || is_used a aliases) ((bytes_eq-Decides a a).1 refl) }

pub freely : (names : List (List ℕ)) (ps : List (Option ℕ)) (g : FieldNode) (n : ℕ) → by_alias names ps g ≡ Some n → IsFree names ps g.aliases n
freely names ps g n e = by_place (is_some (place_of g.name names)) e where
  by_place : (b : Bool) → cond b None (first_free names ps g.aliases) ≡ Some n → IsFree names ps g.aliases n
  by_place true h = absurd cc
  by_place false h = free_alias names ps g.aliases n h

-- ---- names go first

at_index : (ps : List (Option ℕ)) (i j : ℕ) → slice_get ps i ≡ Some (Some j) → is_none (slice_index_or ps i None) ≡ false
at_index [] i j e = absurd cc
at_index (p ∷ ps) zero j e = ap is_none (let same : p ≡ Some j = cc in same)
at_index (p ∷ ps) (suc i) j e = at_index ps i j e

set_apart : {X : Type 0} (xs : List X) (n i : ℕ) (x y : X) → (n ≡ i → ⊥) → slice_get xs i ≡ Some y → slice_get (slice_set xs n x) i ≡ Some y
set_apart [] n i x y h e = e
set_apart (z ∷ xs) zero zero x y h e = absurd (h refl)
set_apart (z ∷ xs) zero (suc i) x y h e = e
set_apart (z ∷ xs) (suc n) zero x y h e = e
set_apart (z ∷ xs) (suc n) (suc i) x y h e = set_apart xs n i x y (λ q. h (ap suc q)) e

keeps : (names : List (List ℕ)) (count : ℕ) (g : FieldNode) (ps : List (Option ℕ)) (i j : ℕ) (o : Option ℕ) → by_alias names ps g ≡ o → slice_get ps i ≡ Some (Some j) → slice_get (taken_by count o ps) i ≡ Some (Some j)
keeps names count g ps i j None is e = e
keeps names count g ps i j (Some n) is e =
    set_apart ps n i (Some count) (Some j) (λ same. let clash : true ≡ false = sym (freely names ps g n is).free ∙ ap (λ (k : ℕ). is_none (slice_index_or ps k None)) same ∙ at_index ps i j e in cc) e

pub all_keep : (names : List (List ℕ)) (rs : List FieldNode) (count : ℕ) (ps : List (Option ℕ)) (i j : ℕ) → slice_get ps i ≡ Some (Some j) → slice_get (with_aliases names ps count rs) i ≡ Some (Some j)
all_keep names [] count ps i j e = e
all_keep names (g ∷ rs) count ps i j e = all_keep names rs (suc count) (taken_by count (by_alias names ps g) ps) i j (keeps names count g ps i j (by_alias names ps g) refl e)

pub place_at : (others : List (List ℕ)) (ws : List FieldNode) (i : ℕ) (f : FieldNode) → slice_get ws i ≡ Some f → slice_get (map (λ f. place_of f.name others) ws) i ≡ Some (place_of f.name others)
place_at others [] i f e = absurd cc
place_at others (w ∷ ws) zero f e = ap (λ (x : FieldNode). Some (place_of x.name others)) (let same : w ≡ f = cc in same)
place_at others (w ∷ ws) (suc i) f e = place_at others ws i f e

pub names_go_first : NamesGoFirst
names_go_first ws rs i j f at named = all_keep (field_names ws) rs 0 (by_name ws rs) i j (place_at (field_names rs) ws i f at ∙ ap Some named)

-- ---- others go by an alias

abbrev IsAliased : List (List ℕ) → List FieldNode → ℕ → ℕ → Type 0
IsAliased names all i j = (g : FieldNode) × (slice_get all j ≡ Some g) × ((name : List ℕ) × (slice_get names i ≡ Some name) × (is_used name g.aliases ≡ true)) × (place_of g.name names ≡ None)

module _ (names : List (List ℕ)) (all : List FieldNode) (first : List (Option ℕ)) where
  abbrev Told : List (Option ℕ) → Type 0
  Told ps = (i j : ℕ) → slice_get ps i ≡ Some (Some j) → (slice_get first i ≡ Some (Some j)) ⊎ IsAliased names all i j

  one_told : (count : ℕ) (g : FieldNode) (ps : List (Option ℕ)) (o : Option ℕ) → by_alias names ps g ≡ o → slice_get all count ≡ Some g → Told ps → Told (taken_by count o ps)
  one_told count g ps None is here told i j e = told i j e
  one_told count g ps (Some n) is here told i j e = elim (set_cases ps n i (Some count) (Some j) e) [
    | inl x ↦ (
        let f = freely names ps g n is in
        let same : count ≡ j = (let two : Some count ≡ Some j = x.1 in cc) in
        inr (g, ap (slice_get all) (sym same) ∙ here, (f.name, ap (slice_get names) x.0 ∙ f.named, f.used), unnamed names ps g n is))
    | inr old ↦ told i j old
  ]

  all_told : (rs : List FieldNode) (count : ℕ) (ps : List (Option ℕ)) → ((k : ℕ) (g : FieldNode) → slice_get rs k ≡ Some g → slice_get all (count + k) ≡ Some g) → Told ps → Told (with_aliases names ps count rs)
  all_told [] count ps at told = told
  all_told (g ∷ rs) count ps at told =
      all_told rs (suc count) (taken_by count (by_alias names ps g) ps) (λ k h e. subst (λ (n : ℕ). slice_get all n ≡ Some h) (let n : count + suc k ≡ suc count + k = omega arith in n) (at (suc k) h e))
      (one_told count g ps (by_alias names ps g) refl (subst (λ (n : ℕ). slice_get all n ≡ Some g) (let n : count + 0 ≡ count = omega arith in n) (at 0 g refl)) told)

pub others_go_by_alias : OthersGoByAlias
others_go_by_alias ws rs i j f at unnamed e =
    let told = all_told (field_names ws) rs (by_name ws rs) rs 0 (by_name ws rs) (λ k g e. subst (λ (n : ℕ). slice_get rs n ≡ Some g) (let n : k ≡ 0 + k = omega arith in n) e) (λ i j e. inl e) i j e in
    elim told [
      | inl first ↦ absurd (let none : Some None ≡ Some (Some j) = sym (place_at (field_names rs) ws i f at ∙ ap Some unnamed) ∙ first in cc)
      | inr a ↦ (
          let name : a.2.0 ≡ f.name = (let two : Some a.2.0 ≡ Some f.name = sym a.2.1 ∙ name_at ws i f at in cc) in
          (a.0, a.1, ap (λ (x : List ℕ). is_used x a.0.aliases) (sym name) ∙ a.2.2, a.3))
    ]
