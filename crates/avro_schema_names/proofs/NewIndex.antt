-- The index of full names, when one more is defined.
use Rattle.std.proofs.Common.{◌≡◌, ◌<◌, ◌≤◌, ℕ, zero, suc, ◌+◌, List, [], ◌∷◌, ◌++◌, length, length-append, Bool, true, false, cond, eqb, ltb, Some, None, refl, sym, ap, subst, ◌∙◌, arith, String, string_bytes, set, slice_get}
use Rattle.std.specs.BTreeMap.{BTreeMap, UpdatesBy, get_by_text}
use Rattle.std.specs.Ordering.{nat_cmp}
use Rattle.std.specs.Cmp.Lexicographic.{slice_cmp}
use Rattle.std.specs.Str.{bytes_eq}
use Rattle.std.specs.String.{string_cmp}
use Rattle.std.proofs.lemmas.Bool.{ltb-true, ltb-false, eqb-true}
use Rattle.std.proofs.lemmas.List.{length-set}
use Rattle.std.proofs.lemmas.Map.Text.{btree_map_updates_text}
use Rattle.std.proofs.lemmas.Slice.Eq.{bytes_eq-Decides}
use Rattle.avro_types.specs.Laws.Placed.{last_not, named-last, none-used, place-behind, or_last, used-at}
use Rattle.spec_schema.specs.Draft.{Draft}
use Rattle.spec_avro.specs.FullNames.{has_dot, inside, is_full_name, is_name, namespace_of}
use Rattle.spec_schema.specs.Head.{Head, Named, defined_at, head_of, heads_of}
use Rattle.avro_schema_names.specs.Index.{IsIndexOf, namespaces_of, with_namespace}
use Rattle.spec_avro.specs.Symbols.{is_used, place_of}
use Rattle.avro_types.specs.Laws.Booleans.{false_by, no_true, none_some, same_number, some_inside}
use Rattle.avro_types.specs.Laws.Dots.{namespace-inside}
use Rattle.avro_schema_names.proofs.DraftLists.{get-front, length-heads_of}
use Rattle.avro_schema_names.proofs.Index.{defined-behind, heads-behind, inside-apart, inside-same}
use Rattle.avro_schema_names.proofs.IndexSteps.{once-behind}
use Rattle.avro_schema_names.proofs.Namespaces.{at-last, spaceless, namespaces-numbered, namespaces-one}

begins-unruled : (last : List ℕ) → is_full_name (46 ∷ last) ≡ false
unfolding is_name
begins-unruled last = refl

-- ---- lists, with one element set

set-same : {X : Type 0} (xs : List X) (i : ℕ) (a b : X) → slice_get (set xs i a) i ≡ Some b → a ≡ b
set-same [] i a b e = absurd (let no : ⊥ = cc in no)
set-same (x ∷ xs) zero a b e = cc
set-same (x ∷ xs) (suc i) a b e = set-same xs i a b e

set-other : {X : Type 0} (xs : List X) (i j : ℕ) (a : X) → (j ≡ i → ⊥) → slice_get (set xs i a) j ≡ slice_get xs j
set-other [] i j a apart = refl
set-other (x ∷ xs) zero zero a apart = absurd (apart refl)
set-other (x ∷ xs) zero (suc j) a apart = refl
set-other (x ∷ xs) (suc i) zero a apart = refl
set-other (x ∷ xs) (suc i) (suc j) a apart = set-other xs i j a (λ e. apart (ap suc e))

at-end : {X : Type 0} (xs : List X) (x : X) → slice_get (xs ++ x ∷ []) (length xs) ≡ Some x
at-end [] x = refl
at-end (y ∷ xs) x = at-end xs x

-- ---- the namespace of one more name

with-same : (namespaces : List (List ℕ)) (full : List ℕ) → is_used (namespace_of full) namespaces ≡ true → with_namespace namespaces (Named full) ≡ namespaces
with-same namespaces full e = rw e refl

with-new : (namespaces : List (List ℕ)) (full : List ℕ) → is_used (namespace_of full) namespaces ≡ false → with_namespace namespaces (Named full) ≡ namespaces ++ namespace_of full ∷ []
with-new namespaces full e = rw e refl

-- ---- one more name

-- one more name, where it is new
-- full is the name of k, which comes after ks
module _ (namespace last : List ℕ) (none : has_dot last ≡ false) (ruled : is_full_name (inside namespace last) ≡ true) (ks ls : List Draft) (k : Draft)
    (named : head_of k ≡ Named (inside namespace last)) (fresh : defined_at (inside namespace last) (heads_of ks) ≡ None) (behind : ls ≡ ks ++ k ∷ []) where
  abbrev full : List ℕ
  full = inside namespace last

  all : heads_of ls ≡ heads_of ks ++ Named full ∷ []
  all = ap (λ xs. heads_of xs) behind ∙ heads-behind ks k ∙ ap (λ h. heads_of ks ++ h ∷ []) named

  defined-now : (other : List ℕ) → defined_at other (heads_of ls) ≡ or_last (bytes_eq full other) (length (heads_of ks)) (defined_at other (heads_of ks))
  defined-now other = ap (defined_at other) all ∙ defined-behind other (heads_of ks) (Named full)

  defined-apart : (other : List ℕ) → bytes_eq full other ≡ false → defined_at other (heads_of ls) ≡ defined_at other (heads_of ks)
  defined-apart other e = defined-now other ∙ rw e (last_not (length (heads_of ks)) (defined_at other (heads_of ks)))

  once-now : ((n : ℕ) (other : List ℕ) → slice_get (heads_of ks) n ≡ Some (Named other) → defined_at other (heads_of ks) ≡ Some n)
      → (n : ℕ) (other : List ℕ) → slice_get (heads_of ls) n ≡ Some (Named other) → defined_at other (heads_of ls) ≡ Some n
  once-now once n other at = ap (defined_at other) all ∙ once-behind (heads_of ks) (Named full) once (λ own is. subst (λ s. defined_at s (heads_of ks) ≡ None) (let same : full ≡ own = cc in same) fresh) n other (ap (λ xs. slice_get xs n) (sym all) ∙ at)

  begins-now : ((l : List ℕ) → defined_at (46 ∷ l) (heads_of ks) ≡ None) → (l : List ℕ) → defined_at (46 ∷ l) (heads_of ls) ≡ None
  begins-now begins l =
      defined-apart (46 ∷ l) (false_by (bytes_eq full (46 ∷ l)) (λ t. no_true (is_full_name full) ruled (ap is_full_name ((bytes_eq-Decides full (46 ∷ l)).0 t) ∙ begins-unruled l))) ∙ begins l

  -- what a scope of the namespace finds, with the last part put into it
  found-own : {A : Type 0} (old new : BTreeMap (String A) ℕ) (node : ℕ) (other : List ℕ) → has_dot other ≡ false → node ≡ length ks → get_by_text old other ≡ defined_at (inside namespace other) (heads_of ks)
      → UpdatesBy string_cmp (λ k. slice_cmp nat_cmp last (string_bytes k)) old new (Some node) → get_by_text new other ≡ defined_at (inside namespace other) (heads_of ls)
  found-own old new node other also is known updates =
      let hs = heads_of ks in
      let n : length hs ≡ length ks = length-heads_of ks in
      let same : bytes_eq full (inside namespace other) ≡ bytes_eq last other = inside-same namespace last other none also in
      let absent : bytes_eq last other ≡ true → defined_at (inside namespace other) hs ≡ None = λ t. ap (λ s. defined_at (inside namespace s) hs) (sym ((bytes_eq-Decides last other).0 t)) ∙ fresh in
      btree_map_updates_text last old new (Some node) updates other
      ∙ ap (cond (bytes_eq last other) (Some node)) known
      ∙ named-last (bytes_eq last other) (defined_at (inside namespace other) hs) node absent
      ∙ sym (defined-now (inside namespace other) ∙ rw (same, n, ← is) refl)

  -- what a scope of another namespace finds
  found-other : (enclosing other : List ℕ) → has_dot other ≡ false → (namespace ≡ enclosing → ⊥) → defined_at (inside enclosing other) (heads_of ks) ≡ defined_at (inside enclosing other) (heads_of ls)
  found-other enclosing other also apart = sym (defined-apart (inside enclosing other) (inside-apart full enclosing other also (λ e. apart (sym (namespace-inside namespace last none) ∙ e))))

  -- ---- in a namespace that has a number

  module _ {A : Type 0} (numbers : BTreeMap (String A) ℕ) (scopes : List (BTreeMap (String A) ℕ)) (known : IsIndexOf numbers scopes ks) where
    found-named : (number node : ℕ) (old new : BTreeMap (String A) ℕ) → slice_get (namespaces_of (heads_of ks)) number ≡ Some namespace → slice_get scopes number ≡ Some old → node ≡ length ks
        → UpdatesBy string_cmp (λ k. slice_cmp nat_cmp last (string_bytes k)) old new (Some node)
        → (n : ℕ) (s other : List ℕ) (scope : BTreeMap (String A) ℕ) → slice_get (namespaces_of (heads_of ks)) n ≡ Some s → slice_get (set scopes number new) n ≡ Some scope → has_dot other ≡ false
        → (b : Bool) → eqb n number ≡ b → get_by_text scope other ≡ defined_at (inside s other) (heads_of ls)
    found-named number node old new there was is updates n s other scope here has also true t =
        let one : n ≡ number = eqb-true n number t in
        let enclosing : namespace ≡ s = some_inside namespace s (sym there ∙ ap (slice_get (namespaces_of (heads_of ks))) (sym one) ∙ here) in
        let it : new ≡ scope = set-same scopes number new scope (ap (slice_get (set scopes number new)) (sym one) ∙ has) in
        rw (← it, ← enclosing) (found-own old new node other also is (known.found number namespace other old there was also) updates)
    found-named number node old new there was is updates n s other scope here has also false t =
        let apart : n ≡ number → ⊥ = λ e. no_true (eqb n number) (same_number n number e) t in
        known.found n s other scope here (sym (set-other scopes number n new apart) ∙ has) also
        ∙ found-other s other also (λ e. apart (some_inside n number (sym (namespaces-numbered (heads_of ks) n s here) ∙ ap (λ x. place_of x (namespaces_of (heads_of ks))) (sym e) ∙ namespaces-numbered (heads_of ks) number namespace there)))

    pub index-named : (number node : ℕ) (old new : BTreeMap (String A) ℕ) → slice_get (namespaces_of (heads_of ks)) number ≡ Some namespace → slice_get scopes number ≡ Some old → node ≡ length ks
        → UpdatesBy string_cmp (λ k. slice_cmp nat_cmp last (string_bytes k)) old new (Some node) → IsIndexOf numbers (set scopes number new) ls
    index-named number node old new there was is updates =
        let hs = heads_of ks in
        let own : namespace_of full ≡ namespace = namespace-inside namespace last none in
        let used : is_used (namespace_of full) (namespaces_of hs) ≡ true = ap (λ s. is_used s (namespaces_of hs)) own ∙ used-at namespace (namespaces_of hs) number (namespaces-numbered hs number namespace there) in
        let namespaces : namespaces_of (heads_of ls) ≡ namespaces_of hs = ap namespaces_of all ∙ namespaces-one hs (Named full) ∙ with-same (namespaces_of hs) full used in
        record {
          numbered = λ s. known.numbered s ∙ ap (place_of s) (sym namespaces);
          each_has_one = length-set scopes number new ∙ known.each_has_one ∙ ap length (sym namespaces);
          found = λ n s other scope here has also. found-named number node old new there was is updates n s other scope (ap (λ xs. slice_get xs n) (sym namespaces) ∙ here) has also (eqb n number) refl;
          once = once-now known.once;
          begins_none = begins-now known.begins_none;
        }

    -- ---- in a namespace that is new

    module _ (new : place_of namespace (namespaces_of (heads_of ks)) ≡ None) where
      unused : is_used namespace (namespaces_of (heads_of ks)) ≡ false
      unused = none-used namespace (namespaces_of (heads_of ks)) new

      namespaces-now : namespaces_of (heads_of ls) ≡ namespaces_of (heads_of ks) ++ namespace ∷ []
      namespaces-now =
          let hs = heads_of ks in
          let own : namespace_of full ≡ namespace = namespace-inside namespace last none in
          ap namespaces_of all ∙ namespaces-one hs (Named full) ∙ with-new (namespaces_of hs) full (ap (λ s. is_used s (namespaces_of hs)) own ∙ unused) ∙ ap (λ s. namespaces_of hs ++ s ∷ []) own

      numbered-first : (next : BTreeMap (String A) ℕ) (number : ℕ) → number ≡ length scopes → UpdatesBy string_cmp (λ k. slice_cmp nat_cmp namespace (string_bytes k)) numbers next (Some number)
          → (s : List ℕ) → get_by_text next s ≡ place_of s (namespaces_of (heads_of ls))
      numbered-first next number count numbered s =
          let namespaces = namespaces_of (heads_of ks) in
          let absent : bytes_eq namespace s ≡ true → place_of s namespaces ≡ None = λ t. ap (λ x. place_of x namespaces) (sym ((bytes_eq-Decides namespace s).0 t)) ∙ new in
          btree_map_updates_text namespace numbers next (Some number) numbered s
          ∙ ap (cond (bytes_eq namespace s) (Some number)) (known.numbered s)
          ∙ named-last (bytes_eq namespace s) (place_of s namespaces) number absent
          ∙ sym (ap (place_of s) namespaces-now ∙ place-behind s namespaces namespace ∙ ap (λ n. or_last (bytes_eq namespace s) n (place_of s namespaces)) (sym known.each_has_one ∙ sym count))

      found-first : (empty scope : BTreeMap (String A) ℕ) (node : ℕ) → ((s : List ℕ) → get_by_text empty s ≡ None) → node ≡ length ks → UpdatesBy string_cmp (λ k. slice_cmp nat_cmp last (string_bytes k)) empty scope (Some node)
          → (n : ℕ) (s other : List ℕ) (found : BTreeMap (String A) ℕ) → slice_get (namespaces_of (heads_of ks) ++ namespace ∷ []) n ≡ Some s → slice_get (scopes ++ scope ∷ []) n ≡ Some found → has_dot other ≡ false
          → (b : Bool) → ltb n (length scopes) ≡ b → get_by_text found other ≡ defined_at (inside s other) (heads_of ls)
      found-first empty scope node void is updates n s other found here has also true lt =
          let hs = heads_of ks in
          let below : n < length scopes = ltb-true n (length scopes) lt in
          let at = sym (get-front (namespaces_of hs) (namespace ∷ []) n (omega (arith, below, known.each_has_one))) ∙ here in
          let apart : namespace ≡ s → ⊥ = λ e. none_some n (sym new ∙ ap (λ x. place_of x (namespaces_of hs)) e ∙ namespaces-numbered hs n s at) in
          known.found n s other found at (sym (get-front scopes (scope ∷ []) n below) ∙ has) also ∙ found-other s other also apart
      found-first empty scope node void is updates n s other found here has also false ge =
          let hs = heads_of ks in
          let past : length scopes ≤ n = ltb-false n (length scopes) ge in
          let enclosing = at-last (namespaces_of hs) namespace n s (omega (arith, past, known.each_has_one)) here in
          let it = at-last scopes scope n found past has in
          let nowhere : defined_at (inside namespace other) hs ≡ None = spaceless (inside namespace other) hs (ap (λ x. is_used x (namespaces_of hs)) (namespace-inside namespace other also) ∙ unused) in
          rw (← it.1, ← enclosing.1) (found-own empty scope node other also is (void other ∙ sym nowhere) updates)

      pub index-first : (next empty scope : BTreeMap (String A) ℕ) (number node : ℕ) → ((s : List ℕ) → get_by_text empty s ≡ None) → node ≡ length ks → number ≡ length scopes
          → UpdatesBy string_cmp (λ k. slice_cmp nat_cmp last (string_bytes k)) empty scope (Some node) → UpdatesBy string_cmp (λ k. slice_cmp nat_cmp namespace (string_bytes k)) numbers next (Some number) → IsIndexOf next (scopes ++ scope ∷ []) ls
      index-first next empty scope number node void is count updates numbered = record {
        numbered = numbered-first next number count numbered;
        each_has_one = length-append scopes (scope ∷ []) ∙ (let z : length scopes + 1 ≡ length (namespaces_of (heads_of ls)) = omega (arith, known.each_has_one, ap length namespaces-now, length-append (namespaces_of (heads_of ks)) (namespace ∷ [])) in z);
        found = λ n s other found here has also. found-first empty scope node void is updates n s other found (ap (λ xs. slice_get xs n) (sym namespaces-now) ∙ here) has also (ltb n (length scopes)) refl;
        once = once-now known.once;
        begins_none = begins-now known.begins_none;
      }

-- a name in a namespace that is not there is not there
pub fresh-first : (namespace last : List ℕ) → has_dot last ≡ false → (hs : List Head) → place_of namespace (namespaces_of hs) ≡ None → defined_at (inside namespace last) hs ≡ None
fresh-first namespace last none hs new = spaceless (inside namespace last) hs (ap (λ s. is_used s (namespaces_of hs)) (namespace-inside namespace last none) ∙ none-used namespace (namespaces_of hs) new)

-- the number of the next namespace
pub first-number : (hs : List Head) (full : List ℕ) → place_of (namespace_of full) (namespaces_of hs) ≡ None → slice_get (namespaces_of (hs ++ Named full ∷ [])) (length (namespaces_of hs)) ≡ Some (namespace_of full)
first-number hs full new =
    ap (λ s. slice_get s (length (namespaces_of hs))) (namespaces-one hs (Named full) ∙ with-new (namespaces_of hs) full (none-used (namespace_of full) (namespaces_of hs) new)) ∙ at-end (namespaces_of hs) (namespace_of full)
