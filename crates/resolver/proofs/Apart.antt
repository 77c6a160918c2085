-- No two of a writer's fields have one partner.
use Rattle.std.proofs.Common.{◌≡◌, ℕ, zero, suc, ◌+◌, ◌<◌, true, false, cond, List, [], ◌∷◌, map, Option, Some, None, is_some, refl, sym, ap, subst, ◌∙◌, inl, inr, ◌⊎◌, slice_get, slice_set, arith}
use Rattle.std.specs.List.{AllByRecursion, IsDistinct}
use Rattle.std.specs.Str.{bytes_eq}
use Rattle.std.proofs.lemmas.Map.Keys.{IsDistinct-head, IsDistinct-tail}
use Rattle.std.proofs.lemmas.Slice.Eq.{bytes_eq-Decides}
use Rattle.avro_types.specs.Laws.Placed.{none-used, place-some}
use Rattle.spec_avro.specs.Node.{FieldNode}
use Rattle.spec_avro.specs.Symbols.{place_of}
use Rattle.spec_avro.specs.WellFormed.{HaveDistinctNames}
use Rattle.spec_avro.specs.Partners.{PartnersAreApart, by_alias, by_name, field_names, first_free, taken_by, with_aliases}
use Rattle.resolver.proofs.Holding.{used_there}

-- ---- lists

pub set_cases : {X : Type 0} (xs : List X) (i k : ℕ) (x y : X) → slice_get (slice_set xs i x) k ≡ Some y → ((k ≡ i) × (x ≡ y)) ⊎ (slice_get xs k ≡ Some y)
set_cases [] i k x y e = absurd cc
set_cases (z ∷ xs) zero zero x y e = inl (refl, cc)
set_cases (z ∷ xs) zero (suc k) x y e = inr e
set_cases (z ∷ xs) (suc i) zero x y e = inr e
set_cases (z ∷ xs) (suc i) (suc k) x y e = elim (set_cases xs i k x y e) [ inl p ↦ inl (ap suc p.0, p.1) | inr old ↦ inr old ]

one_at : (P : List ℕ → Type 0) (names : List (List ℕ)) (i : ℕ) (name : List ℕ) → AllByRecursion P names → slice_get names i ≡ Some name → P name
one_at P [] i name all e = absurd cc
one_at P (n ∷ names) zero name all e = subst P (let same : n ≡ name = cc in same) all.0
one_at P (n ∷ names) (suc i) name all e = one_at P names i name all.1 e

differs : (name : List ℕ) → bytes_eq name name ≡ false → ⊥
differs name e = let same = (bytes_eq-Decides name name).1 refl in let clash : true ≡ false = sym same ∙ e in cc

pub one_place : (names : List (List ℕ)) (i k : ℕ) (name : List ℕ) → IsDistinct bytes_eq names → slice_get names i ≡ Some name → slice_get names k ≡ Some name → i ≡ k
one_place [] i k name d a b = absurd cc
one_place (n ∷ names) zero zero name d a b = refl
one_place (n ∷ names) zero (suc k) name d a b =
    let same : n ≡ name = cc in
    absurd (differs name (subst (λ (x : List ℕ). bytes_eq x name ≡ false) same (one_at (λ y. bytes_eq n y ≡ false) names k name (IsDistinct-head bytes_eq n names d) b)))
one_place (n ∷ names) (suc i) zero name d a b =
    let same : n ≡ name = cc in
    absurd (differs name (subst (λ (x : List ℕ). bytes_eq x name ≡ false) same (one_at (λ y. bytes_eq n y ≡ false) names i name (IsDistinct-head bytes_eq n names d) a)))
one_place (n ∷ names) (suc i) (suc k) name d a b = ap suc (one_place names i k name (IsDistinct-tail bytes_eq n names d) a b)

-- ---- partners

-- both fields have one name
abbrev HaveOneName : (names others : List (List ℕ)) → ℕ → ℕ → Type 0
HaveOneName names others i j = (name : List ℕ) × (slice_get names i ≡ Some name) × (slice_get others j ≡ Some name)

-- partners are apart, and each is one of the reader's first `count` fields, or has the same name
record AreApart (names others : List (List ℕ)) (count : ℕ) (ps : List (Option ℕ)) : Type 0 where
  apart : (i k j : ℕ) → slice_get ps i ≡ Some (Some j) → slice_get ps k ≡ Some (Some j) → i ≡ k
  told : (i j : ℕ) → slice_get ps i ≡ Some (Some j) → (j < count) ⊎ HaveOneName names others i j

named : (others : List (List ℕ)) (ws : List FieldNode) (i j : ℕ) → slice_get (map (λ f. place_of f.name others) ws) i ≡ Some (Some j) → HaveOneName (field_names ws) others i j
named others [] i j e = absurd cc
named others (f ∷ ws) zero j e = (f.name, refl, place-some f.name others j (let at : place_of f.name others ≡ Some j = cc in at))
named others (f ∷ ws) (suc i) j e = named others ws i j e

by_name_apart : (ws rs : List FieldNode) → HaveDistinctNames ws → AreApart (field_names ws) (field_names rs) 0 (by_name ws rs)
by_name_apart ws rs distinct = record {
  apart = λ i k j a b.
      let p = named (field_names rs) ws i j a in
      let q = named (field_names rs) ws k j b in
      let same : p.0 ≡ q.0 = (let two : Some p.0 ≡ Some q.0 = sym p.2 ∙ q.2 in cc) in
      one_place (field_names ws) i k q.0 distinct (p.1 ∙ ap Some same) q.1;
  told = λ i j a. inr (named (field_names rs) ws i j a);
}

-- a field that takes a partner by an alias has the name of none
pub unnamed : (names : List (List ℕ)) (ps : List (Option ℕ)) (g : FieldNode) (i : ℕ) → by_alias names ps g ≡ Some i → place_of g.name names ≡ None
unnamed names ps g i e = by_place (place_of g.name names) refl e where
  by_place : (o : Option ℕ) → place_of g.name names ≡ o → cond (is_some o) None (first_free names ps g.aliases) ≡ Some i → place_of g.name names ≡ None
  by_place None is h = is
  by_place (Some n) is h = absurd cc

module _ (names others : List (List ℕ)) where
  one_more : (count : ℕ) (g : FieldNode) (ps : List (Option ℕ)) (o : Option ℕ) → by_alias names ps g ≡ o → slice_get others count ≡ Some g.name → AreApart names others count ps → AreApart names others (suc count) (taken_by count o ps)
  one_more count g ps None is here a = record { apart = a.apart; told = λ i j e. elim (a.told i j e) [ inl lt ↦ inl (omega (arith, lt)) | inr one ↦ inr one ] }
  one_more count g ps (Some n) is here a = record {
    apart = λ i k j p q. elim (set_cases ps n i (Some count) (Some j) p) [
      | inl x ↦ elim (set_cases ps n k (Some count) (Some j) q) [
        | inl y ↦ x.0 ∙ sym y.0
        | inr y ↦ absurd (free k (y ∙ ap (λ (m : ℕ). Some (Some m)) (sym (number count j x.1))))
      ]
      | inr x ↦ elim (set_cases ps n k (Some count) (Some j) q) [
        | inl y ↦ absurd (free i (x ∙ ap (λ (m : ℕ). Some (Some m)) (sym (number count j y.1))))
        | inr y ↦ a.apart i k j x y
      ]
    ];
    told = λ i j p. elim (set_cases ps n i (Some count) (Some j) p) [
      | inl x ↦ inl (let same = number count j x.1 in omega (arith, same))
      | inr x ↦ elim (a.told i j x) [ inl lt ↦ inl (omega (arith, lt)) | inr one ↦ inr one ]
    ];
  } where
    number : (m j : ℕ) → Some m ≡ Some j → m ≡ j
    number m j e = cc

    free : (k : ℕ) → slice_get ps k ≡ Some (Some count) → ⊥
    free k e = elim (a.told k count e) [
      | inl lt ↦ omega (arith, lt)
      | inr one ↦ (
          let same : one.0 ≡ g.name = (let two : Some one.0 ≡ Some g.name = sym one.2 ∙ here in cc) in
          let used = used_there g.name names k (one.1 ∙ ap Some same) in
          let unused = none-used g.name names (unnamed names ps g n is) in
          let clash : true ≡ false = sym used ∙ unused in cc)
    ]

  aliases_apart : (rs : List FieldNode) (count : ℕ) (ps : List (Option ℕ)) → ((k : ℕ) (g : FieldNode) → slice_get rs k ≡ Some g → slice_get others (count + k) ≡ Some g.name) → AreApart names others count ps → (last : ℕ) × AreApart names others last (with_aliases names ps count rs)
  aliases_apart [] count ps at a = (count, a)
  aliases_apart (g ∷ rs) count ps at a =
      aliases_apart rs (suc count) (taken_by count (by_alias names ps g) ps) (λ k h e. subst (λ (n : ℕ). slice_get others n ≡ Some h.name) (let n : count + suc k ≡ suc count + k = omega arith in n) (at (suc k) h e))
      (one_more count g ps (by_alias names ps g) refl (subst (λ (n : ℕ). slice_get others n ≡ Some g.name) (let n : count + 0 ≡ count = omega arith in n) (at 0 g refl)) a)

pub name_at : (rs : List FieldNode) (k : ℕ) (g : FieldNode) → slice_get rs k ≡ Some g → slice_get (field_names rs) k ≡ Some g.name
name_at [] k g e = absurd cc
name_at (r ∷ rs) zero g e = ap (λ (x : FieldNode). Some x.name) (let same : r ≡ g = cc in same)
name_at (r ∷ rs) (suc k) g e = name_at rs k g e

pub partners_apart : PartnersAreApart
partners_apart ws rs i k j distinct a b =
    (aliases_apart (field_names ws) (field_names rs) rs 0 (by_name ws rs) (λ k g e. subst (λ (n : ℕ). slice_get (field_names rs) n ≡ Some g.name) (let n : k ≡ 0 + k = omega arith in n) (name_at rs k g e)) (by_name_apart ws rs distinct)).1.apart i k j a b
