-- The index of full names, when a node comes or is put in another's place.
use Rattle.std.proofs.Common.{◌≡◌, ℕ, zero, suc, List, [], ◌∷◌, ◌++◌, length, Bool, true, false, cond, ltb, Some, None, refl, sym, ap, subst, ◌∙◌, String, string_bytes, set, slice_get}
use Rattle.std.specs.BTreeMap.{BTreeMap, UpdatesBy, get_by_text}
use Rattle.std.specs.Ordering.{nat_cmp}
use Rattle.std.specs.Cmp.Lexicographic.{slice_cmp}
use Rattle.std.specs.Str.{bytes_eq}
use Rattle.std.specs.String.{string_cmp}
use Rattle.std.proofs.lemmas.Bool.{ltb-true, ltb-false}
use Rattle.std.proofs.lemmas.Map.Text.{btree_map_updates_text}
use Rattle.std.proofs.lemmas.Slice.Eq.{bytes_eq-Decides}
use Rattle.avro_types.specs.Laws.Placed.{last_not, or_last}
use Rattle.spec_schema.specs.Draft.{Draft}
use Rattle.spec_avro.specs.FullNames.{inside}
use Rattle.spec_schema.specs.Head.{Head, NullHead, BooleanHead, IntHead, LongHead, BytesHead, TextHead, ArrayHead, MapHead, UnionHead, Named, defined_at, defines, head_of, heads_of}
use Rattle.avro_schema_names.specs.Head.{IsUnnamed}
use Rattle.avro_schema_names.specs.Index.{IsIndexOf, namespaces_of, with_namespace}
use Rattle.avro_types.specs.Laws.Booleans.{no_true}
use Rattle.avro_schema_names.proofs.DraftLists.{get-front}
use Rattle.avro_schema_names.proofs.Index.{defined-behind, heads-behind}
use Rattle.avro_schema_names.proofs.Namespaces.{at-last, namespaces-one}
use Rattle.spec_avro.specs.Symbols.{place_of}

-- ---- a name is defined once

pub once-behind : (hs : List Head) (h : Head) → ((n : ℕ) (full : List ℕ) → slice_get hs n ≡ Some (Named full) → defined_at full hs ≡ Some n) → ((full : List ℕ) → h ≡ Named full → defined_at full hs ≡ None)
    → (n : ℕ) (full : List ℕ) → slice_get (hs ++ h ∷ []) n ≡ Some (Named full) → defined_at full (hs ++ h ∷ []) ≡ Some n
once-behind hs h once new n full e = defined-behind full hs h ∙ at (ltb n (length hs)) refl
  where
    at : (b : Bool) → ltb n (length hs) ≡ b → or_last (defines full h) (length hs) (defined_at full hs) ≡ Some n
    at true lt = ap (or_last (defines full h) (length hs)) (once n full (sym (get-front hs (h ∷ []) n (ltb-true n (length hs) lt)) ∙ e))
    at false ge =
        let k = at-last hs h n (Named full) (ltb-false n (length hs) ge) e in
        rw (new full k.1, k.1, (bytes_eq-Decides full full).1 refl) (ap Some (sym k.0))

-- ---- a node without a name

named-not : (full : List ℕ) → IsUnnamed (Named full) → ⊥
named-not full none = no_true (bytes_eq full full) ((bytes_eq-Decides full full).1 refl) (none full)

with-unnamed : (namespaces : List (List ℕ)) (h : Head) → IsUnnamed h → with_namespace namespaces h ≡ namespaces
with-unnamed namespaces (Named full) none = absurd (named-not full none)
with-unnamed namespaces NullHead none = refl
with-unnamed namespaces BooleanHead none = refl
with-unnamed namespaces IntHead none = refl
with-unnamed namespaces LongHead none = refl
with-unnamed namespaces BytesHead none = refl
with-unnamed namespaces TextHead none = refl
with-unnamed namespaces ArrayHead none = refl
with-unnamed namespaces MapHead none = refl
with-unnamed namespaces UnionHead none = refl

-- the same namespaces, and the same node for each name
module _ {A : Type 0} (numbers : BTreeMap (String A) ℕ) (scopes : List (BTreeMap (String A) ℕ)) (ks ls : List Draft) where
  same-index : IsIndexOf numbers scopes ks → namespaces_of (heads_of ls) ≡ namespaces_of (heads_of ks) → ((full : List ℕ) → defined_at full (heads_of ls) ≡ defined_at full (heads_of ks))
      → ((n : ℕ) (full : List ℕ) → slice_get (heads_of ls) n ≡ Some (Named full) → defined_at full (heads_of ls) ≡ Some n) → IsIndexOf numbers scopes ls
  same-index known namespaces same once = record {
    numbered = λ namespace. known.numbered namespace ∙ ap (place_of namespace) (sym namespaces);
    each_has_one = known.each_has_one ∙ ap length (sym namespaces);
    found = λ number namespace last scope at is none. known.found number namespace last scope (ap (λ s. slice_get s number) (sym namespaces) ∙ at) is none ∙ sym (same (inside namespace last));
    once = once;
    begins_none = λ last. same (46 ∷ last) ∙ known.begins_none last;
  }

  index-heads : IsIndexOf numbers scopes ks → heads_of ls ≡ heads_of ks → IsIndexOf numbers scopes ls
  index-heads known e = same-index known (ap namespaces_of e) (λ full. ap (defined_at full) e) (λ n full at. ap (defined_at full) e ∙ known.once n full (ap (λ hs. slice_get hs n) (sym e) ∙ at))

  index-unnamed : (k : Draft) → IsIndexOf numbers scopes ks → IsUnnamed (head_of k) → ls ≡ ks ++ k ∷ [] → IsIndexOf numbers scopes ls
  index-unnamed k known none e =
      let hs = heads_of ks in
      let h = head_of k in
      let all : heads_of ls ≡ hs ++ h ∷ [] = ap (λ xs. heads_of xs) e ∙ heads-behind ks k in
      same-index known (ap namespaces_of all ∙ namespaces-one hs h ∙ with-unnamed (namespaces_of hs) h none)
      (λ full. ap (defined_at full) all ∙ defined-behind full hs h ∙ rw (none full) (last_not (length hs) (defined_at full hs)))
      (λ n full at. ap (defined_at full) all ∙ once-behind hs h known.once (λ own is. absurd (named-not own (subst IsUnnamed is none))) n full (ap (λ xs. slice_get xs n) (sym all) ∙ at))

pub index-pushed : {A : Type 0} (numbers : BTreeMap (String A) ℕ) (scopes : List (BTreeMap (String A) ℕ)) (ks ls : List Draft) (k : Draft) (pushed : Bool) → IsIndexOf numbers scopes ks → IsUnnamed (head_of k) → ls ≡ cond pushed (ks ++ k ∷ []) ks → IsIndexOf numbers scopes ls
index-pushed numbers scopes ks ls k true known none e = index-unnamed numbers scopes ks ls k known none e
index-pushed numbers scopes ks ls k false known none e = subst (IsIndexOf numbers scopes) (sym e) known

-- ---- a node in the place of one with the same head

heads-set : (ds : List Draft) (i : ℕ) (d : Draft) → slice_get (heads_of ds) i ≡ Some (head_of d) → heads_of (set ds i d) ≡ heads_of ds
heads-set [] i d e = refl
heads-set (x ∷ ds) zero d e = let same : head_of x ≡ head_of d = cc in ap (λ h. h ∷ heads_of ds) (sym same)
heads-set (x ∷ ds) (suc i) d e = ap (λ hs. head_of x ∷ hs) (heads-set ds i d e)

pub index-set : {A : Type 0} (numbers : BTreeMap (String A) ℕ) (scopes : List (BTreeMap (String A) ℕ)) (ks : List Draft) (i : ℕ) (k : Draft) → IsIndexOf numbers scopes ks → slice_get (heads_of ks) i ≡ Some (head_of k) → IsIndexOf numbers scopes (set ks i k)
index-set numbers scopes ks i k known same = index-heads numbers scopes ks (set ks i k) known (heads-set ks i k same)

-- ---- no node, and the null namespace

null-found : {A : Type 0} (scope : BTreeMap (String A) ℕ) → ((s : List ℕ) → get_by_text scope s ≡ None) → (n : ℕ) (namespace last : List ℕ) (found : BTreeMap (String A) ℕ) → slice_get (scope ∷ []) n ≡ Some found → get_by_text found last ≡ defined_at (inside namespace last) []
unfolding defined_at
null-found scope void zero namespace last found has = let same : scope ≡ found = cc in rw (← same) (void last)
null-found scope void (suc n) namespace last found has = absurd (let no : ⊥ = cc in no)

pub index-empty : {A : Type 0} (empty numbers scope : BTreeMap (String A) ℕ) → ((s : List ℕ) → get_by_text empty s ≡ None) → ((s : List ℕ) → get_by_text scope s ≡ None)
    → UpdatesBy string_cmp (λ k. slice_cmp nat_cmp [] (string_bytes k)) empty numbers (Some 0) → IsIndexOf numbers (scope ∷ []) []
unfolding defined_at namespaces_of
index-empty empty numbers scope void nothing numbered = record {
  numbered = λ s. btree_map_updates_text [] empty numbers (Some 0) numbered s ∙ ap (cond (bytes_eq [] s) (Some 0)) (void s);
  each_has_one = refl;
  found = λ n namespace last found here has none. null-found scope nothing n namespace last found has;
  once = λ n full at. absurd (let no : ⊥ = cc in no);
  begins_none = λ last. refl;
}
