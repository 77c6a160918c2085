-- The position of each symbol, kept while the symbols are gone through.
use Rattle.std.proofs.Common.{◌≡◌, ◌<◌, ◌++◌, not, ◌&&◌, map, add-one, ◌≤◌, ℕ, zero, suc, ◌+◌, List, [], ◌∷◌, length, take, drop, get_or, min, true, false, cond, Option, Some, None, is_some, IfSome, refl, sym, ap, ◌∙◌, arith, String, Global, string_bytes}
use Rattle.std.specs.BTreeMap.{BTreeMap, UpdatesBy, get_by_text}
use Rattle.std.specs.Ordering.{nat_cmp}
use Rattle.std.specs.Cmp.Lexicographic.{slice_cmp}
use Rattle.std.specs.Str.{bytes_eq}
use Rattle.std.specs.String.{string_cmp}
use Rattle.std.proofs.Math.Seq.{drop-cons}
use Rattle.std.proofs.lemmas.List.{length-map, length-take}
use Rattle.std.proofs.lemmas.Map.Text.{btree_map_updates_text}
use Rattle.std.proofs.lemmas.Slice.Eq.{bytes_eq-Decides}
use Rattle.spec_avro.specs.Symbols.{are_new, is_used, place_of}
use Rattle.avro_types.specs.Laws.Booleans.{is_nowhere}
use Rattle.avro_types.specs.Laws.Placed.{named-last, none-used, place-behind, used-at, place-within}
use Rattle.avro_types.specs.Laws.Plain.{map-one, names}

-- ---- texts one after another

take-one : (ts : List (String Global)) (i : ℕ) (t : String Global) → i < length ts → t ≡ get_or ts i t → take (suc i) ts ≡ take i ts ++ t ∷ []
take-one [] i t lt is = absurd (omega arith)
take-one (x ∷ ts) zero t lt is = ap (λ y. y ∷ []) (sym is)
take-one (x ∷ ts) (suc i) t lt is = ap (λ xs. x ∷ xs) (take-one ts i t (omega arith) is)

pub names-take : (ts : List (String Global)) (i : ℕ) (t : String Global) → i < length ts → t ≡ get_or ts i t → names (take (i + 1) ts) ≡ names (take i ts) ++ string_bytes t ∷ []
names-take ts i t lt is = rw add-one (ap names (take-one ts i t lt is) ∙ map-one string_bytes (take i ts) t)

pub new-step : (before : List (List ℕ)) (ts : List (String Global)) (i : ℕ) (t : String Global) → i < length ts → t ≡ get_or ts i t
    → are_new before (names (drop i ts)) ≡ (not (is_used (string_bytes t) before) && are_new (before ++ string_bytes t ∷ []) (names (drop (i + 1) ts)))
new-step before ts i t lt is = rw (drop-cons ts i t lt, ← is, add-one i) refl

-- ---- the position of each

pub position-within : (s : List ℕ) (xs : List (List ℕ)) (o : Option ℕ) → o ≡ place_of s xs → IfSome o (λ n. n < length xs)
position-within s xs None e = tt
position-within s xs (Some n) e = place-within s xs n (sym e)

some-some : {A : Type 0} (o : Option A) → is_some o ≡ true → (a : A) × (o ≡ Some a)
some-some None e = absurd (let no : ⊥ = cc in no)
some-some (Some a) e = (a, refl)

pub all-taken : {A : Type 0} (xs : List A) (i : ℕ) → length xs ≤ i → take i xs ≡ xs
all-taken [] zero le = refl
all-taken [] (suc i) le = refl
all-taken (x ∷ xs) zero le = absurd (omega arith)
all-taken (x ∷ xs) (suc i) le = ap (λ ys. x ∷ ys) (all-taken xs i (omega arith))

-- the text at index i, after those before it
module _ (ts : List (String Global)) (i : ℕ) (t : String Global) (lt : i < length ts) (is : t ≡ get_or ts i t) where
  pub comes-twice : (o : Option ℕ) → o ≡ place_of (string_bytes t) (names (take i ts)) → is_some o ≡ true → are_new (names (take i ts)) (names (drop i ts)) ≡ false
  comes-twice o at some =
      let p = some-some o some in
      let used = used-at (string_bytes t) (names (take i ts)) p.0 (sym at ∙ p.1) in
      new-step (names (take i ts)) ts i t lt is ∙ rw used refl

  pub comes-once : (o : Option ℕ) → o ≡ place_of (string_bytes t) (names (take i ts)) → is_some o ≡ false → are_new (names (take (i + 1) ts)) (names (drop (i + 1) ts)) ≡ are_new (names (take i ts)) (names (drop i ts))
  comes-once o at none =
      let unused = none-used (string_bytes t) (names (take i ts)) (sym at ∙ is_nowhere o none) in
      rw (names-take ts i t lt is) (sym (new-step (names (take i ts)) ts i t lt is ∙ rw unused refl))

  pub positions-on : (old new : BTreeMap (String Global) ℕ) (o : Option ℕ) → ((s : List ℕ) → get_by_text old s ≡ place_of s (names (take i ts))) → o ≡ place_of (string_bytes t) (names (take i ts)) → is_some o ≡ false
      → UpdatesBy string_cmp (λ k. slice_cmp nat_cmp (string_bytes t) (string_bytes k)) old new (Some i) → (s : List ℕ) → get_by_text new s ≡ place_of s (names (take (i + 1) ts))
  positions-on old new o known at none updates s =
      let fresh : place_of (string_bytes t) (names (take i ts)) ≡ None = sym at ∙ is_nowhere o none in
      let absent : bytes_eq (string_bytes t) s ≡ true → place_of s (names (take i ts)) ≡ None = λ e. ap (λ x. place_of x (names (take i ts))) (sym ((bytes_eq-Decides (string_bytes t) s).0 e)) ∙ fresh in
      let len : length (names (take i ts)) ≡ i = length-map (take i ts) string_bytes ∙ length-take i ts ∙ (let n : min i (length ts) ≡ i = omega (arith, lt) in n) in
      btree_map_updates_text (string_bytes t) old new (Some i) updates s
      ∙ ap (cond (bytes_eq (string_bytes t) s) (Some i)) (known s)
      ∙ named-last (bytes_eq (string_bytes t) s) (place_of s (names (take i ts))) i absent
      ∙ sym (rw (names-take ts i t lt is) (place-behind s (names (take i ts)) (string_bytes t) ∙ rw len refl))
