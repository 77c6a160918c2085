-- The ids of a subject's versions, and the number of each.
use Rattle.std.proofs.Common.{◌≡◌, ◌≤◌, ℕ, suc, ◌+◌, List, [], ◌∷◌, ◌++◌, length, Bool, true, false, cond, ◌||◌, Some, None, refl, sym, ap, subst, ◌∙◌, arith, eqb, ◌==◌}
use Rattle.std.specs.Ordering.{nat_cmp}
use Rattle.std.specs.BTreeMap.{BTreeMap, IsEmpty, Updates, get, is_at}
use Rattle.std.specs.Cmp.{nat_eq_equiv, unsigned_tied}
use Rattle.std.specs.List.{AllByRecursion, IsDistinct, list_any, position_from}
use Rattle.std.specs.Map.{lookup}
use Rattle.std.proofs.lemmas.Bool.{eqb-true, eq-eqb}
use Rattle.std.proofs.lemmas.Map.Keys.{IsDistinct-push}
use Rattle.std.proofs.lemmas.Map.Steps.{length-le_from_distinct_below}
use Rattle.schema_registry_maps.specs.declared.limits.TheConstants.{MOST_ID}
use Rattle.schema_registry_maps.specs.Maps.{AreNumbersOf, number_of}
use Rattle.schema_registry_maps.specs.Laws.Plain.{all-push}

-- what all have that one of them has
pub all-any : (P : ℕ → Type 0) (xs : List ℕ) → AllByRecursion P xs → (q : ℕ) → list_any (eqb q) xs ≡ true → P q
all-any P [] all q e = absurd (let no : ⊥ = cc in no)
all-any P (x ∷ xs) all q e = at (eqb q x) refl e (all-any P xs all.1 q)
  where
    at : (b : Bool) → eqb q x ≡ b → (b || list_any (eqb q) xs) ≡ true → (list_any (eqb q) xs ≡ true → P q) → P q
    at true is e later = subst P (sym (eqb-true q x is)) all.0
    at false is e later = later e

unfound : (id n : ℕ) (ids : List ℕ) → position_from (λ i. i == id) n ids ≡ None → list_any (eqb id) ids ≡ false
unfound id n [] e = refl
unfound id n (i ∷ ids) e = at (i == id) (eqb id i) refl refl e (unfound id (n + 1) ids)
  where
    at : (b c : Bool) → (i == id) ≡ b → eqb id i ≡ c → cond b (Some n) (position_from (λ i. i == id) (n + 1) ids) ≡ None
        → (position_from (λ i. i == id) (n + 1) ids ≡ None → list_any (eqb id) ids ≡ false) → (c || list_any (eqb id) ids) ≡ false
    at true c is other e later = absurd (let no : ⊥ = cc in no)
    at false true is other e later = absurd (let no : ⊥ = let h : (i == id) ≡ true = eq-eqb i id (sym (eqb-true id i other)) in cc in no)
    at false false is other e later = later e

pub none_yet : (m : BTreeMap ℕ ℕ) → IsEmpty m → AreNumbersOf m []
unfolding IsDistinct
none_yet m empty = record { found = λ id. ap (lookup (is_at (nat_cmp id))) empty; distinct = tt; known = tt }

-- the place of one more where the others are not it, and the place of another
last-found : {A : Type 0} (test : A → Bool) (n : ℕ) (xs : List A) (x : A) → position_from test n xs ≡ None → test x ≡ true → position_from test n (xs ++ x ∷ []) ≡ Some (n + length xs)
last-found test n [] x none here = rw here (ap Some (let e : n ≡ n + 0 = omega arith in e))
last-found test n (y ∷ xs) x none here = at (test y) none (last-found test (n + 1) xs x)
  where
    at : (b : Bool) → cond b (Some n) (position_from test (n + 1) xs) ≡ None → (position_from test (n + 1) xs ≡ None → test x ≡ true → position_from test (n + 1) (xs ++ x ∷ []) ≡ Some (n + 1 + length xs))
        → cond b (Some n) (position_from test (n + 1) (xs ++ x ∷ [])) ≡ Some (n + suc (length xs))
    at true e later = absurd (let no : ⊥ = cc in no)
    at false e later = later e here ∙ ap Some (let e : n + 1 + length xs ≡ n + suc (length xs) = omega arith in e)

not-last : {A : Type 0} (test : A → Bool) (n : ℕ) (xs : List A) (x : A) → test x ≡ false → position_from test n (xs ++ x ∷ []) ≡ position_from test n xs
not-last test n [] x other = rw other refl
not-last test n (y ∷ xs) x other = ap (cond (test y) (Some n)) (not-last test (n + 1) xs x other)

module _ (old new : BTreeMap ℕ ℕ) (ids : List ℕ) (id : ℕ) (kept : AreNumbersOf old ids) (lacking : number_of id ids ≡ None) where
  found-more : Updates nat_cmp old new id (Some (length ids + 1)) → (q : ℕ) → get nat_cmp new q ≡ number_of q (ids ++ id ∷ [])
  found-more updates q = updates.0 q ∙ at (id == q) refl
    where
      at : (b : Bool) → (id == q) ≡ b → cond (is_at (nat_cmp id) q) (Some (length ids + 1)) (get nat_cmp old q) ≡ number_of q (ids ++ id ∷ [])
      at true is =
          let none : number_of q ids ≡ None = subst (λ i. number_of i ids ≡ None) (eqb-true id q is) lacking in
          let more : length ids + 1 ≡ 1 + length ids = omega arith in
          rw (unsigned_tied id q, is) (ap Some more ∙ sym (last-found (λ i. i == q) 1 ids id none is))
      at false is = rw (unsigned_tied id q, is) (kept.found q ∙ sym (not-last (λ i. i == q) 1 ids id is))

  pub one_number : (n : ℕ) → n ≡ length ids → id ≤ MOST_ID → Updates nat_cmp old new id (Some (n + 1)) → AreNumbersOf new (ids ++ id ∷ [])
  one_number n len few updates = record {
    found = found-more (subst (λ n. Updates nat_cmp old new id (Some (n + 1))) len updates);
    distinct = IsDistinct-push nat_eq_equiv ids id kept.distinct (unfound id 1 ids lacking);
    known = all-push (λ i. i ≤ MOST_ID) ids id kept.known few;
  }

pub few_versions : (m : BTreeMap ℕ ℕ) (ids : List ℕ) → AreNumbersOf m ids → length ids ≤ MOST_ID + 1
few_versions m ids kept =
    length-le_from_distinct_below ids (MOST_ID + 1) kept.distinct (λ q e. let h : q ≤ MOST_ID = all-any (λ i. i ≤ MOST_ID) ids kept.known q e in omega (arith, h))
