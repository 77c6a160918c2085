-- The rule for full names, by a namespace and a last part.
use Rattle.std.proofs.Common.{◌≡◌, ◌<◌, ℕ, Bool, true, false, cond, eqb, ◌&&◌, ◌||◌, List, [], ◌∷◌, ◌++◌, length, refl, ap, subst, ◌∙◌, arith}
use Rattle.std.specs.List.{list_all, onto_first, slice_split}
use Rattle.std.proofs.lemmas.Bool.{eqb-true}
use Rattle.std.proofs.lemmas.List.Folds.{list_all-append}
use Rattle.std.proofs.lemmas.List.Splits.{length-slice_split}
use Rattle.spec_avro.specs.FullNames.{AreParts, has_dot, inside, is_dot, is_full_name, is_letter, is_letter_or_digit, is_name, is_namespace}
use Rattle.avro_types.specs.Laws.Booleans.{and_true, both, neither}

-- ---- a name has no dot

no_dot : (c : ℕ) (b : Bool) → eqb c 46 ≡ b → is_letter_or_digit c ≡ true → b ≡ false
no_dot c false e l = refl
no_dot c true e l = absurd (let no : ⊥ = let at : is_letter_or_digit 46 ≡ true = subst (λ n. is_letter_or_digit n ≡ true) (eqb-true c 46 e) l in cc in no)

letters-undotted : (s : List ℕ) → list_all is_letter_or_digit s ≡ true → has_dot s ≡ false
letters-undotted [] e = refl
letters-undotted (c ∷ cs) e =
    let h = both (is_letter_or_digit c) (list_all is_letter_or_digit cs) e in
    rw (no_dot c (eqb c 46) refl h.0) (letters-undotted cs h.1)

letter_counts : (b c : Bool) → b ≡ true → (b || c) ≡ true
letter_counts true c e = refl
letter_counts false c e = absurd (let no : ⊥ = cc in no)

pub name-undotted : (s : List ℕ) → is_name s ≡ true → has_dot s ≡ false
unfolding is_name
name-undotted [] e = refl
name-undotted (c ∷ cs) e =
    let h = both (is_letter c) (list_all is_letter_or_digit cs) e in
    rw (no_dot c (eqb c 46) refl (letter_counts (is_letter c) _ h.0)) (letters-undotted cs h.1)

-- ---- a full name, cut at a dot

onto-append : (c : ℕ) (parts more : List (List ℕ)) → 0 < length parts → onto_first c (parts ++ more) ≡ onto_first c parts ++ more
onto-append c [] more some = absurd (omega arith)
onto-append c (part ∷ parts) more some = refl

split-behind : (front last : List ℕ) → slice_split is_dot (front ++ 46 ∷ last) ≡ slice_split is_dot front ++ slice_split is_dot last
split-behind [] last = refl
split-behind (c ∷ cs) last = rw (split-behind cs last) (at (is_dot c))
  where
    at : (b : Bool) → cond b ([] ∷ (slice_split is_dot cs ++ slice_split is_dot last)) (onto_first c (slice_split is_dot cs ++ slice_split is_dot last)) ≡ cond b ([] ∷ slice_split is_dot cs) (onto_first c (slice_split is_dot cs)) ++ slice_split is_dot last
    at true = refl
    at false = onto-append c (slice_split is_dot cs) (slice_split is_dot last) (omega (arith, length-slice_split is_dot cs))

pub undotted-part : (last : List ℕ) → has_dot last ≡ false → slice_split is_dot last ≡ last ∷ []
undotted-part [] none = refl
undotted-part (c ∷ cs) none = let h = neither (is_dot c) (has_dot cs) none in rw (h.0, undotted-part cs h.1) refl

pub full-inside : (namespace last : List ℕ) → has_dot last ≡ false → is_full_name (inside namespace last) ≡ (is_namespace namespace && is_name last)
full-inside [] last none = rw (undotted-part last none) (and_true (is_name last))
full-inside (c ∷ cs) last none =
    rw (split-behind (c ∷ cs) last, undotted-part last none) (list_all-append is_name (slice_split is_dot (c ∷ cs)) (last ∷ []) ∙ ap (λ b. is_full_name (c ∷ cs) && b) (and_true (is_name last)))

pub parts-ruled : (namespace last : List ℕ) → AreParts namespace last → is_full_name (inside namespace last) ≡ true
parts-ruled namespace last parts = full-inside namespace last (name-undotted last parts.last_is) ∙ rw (parts.namespace_is, parts.last_is) refl
