-- Names in order beside nodes and fields, when one more comes.
use Rattle.std.proofs.Common.{◌≡◌, Bool, cond, refl, ◌<◌, ℕ, ◌+◌, List, [], ◌∷◌, ◌++◌, length, true, false, ◌||◌, Some, sym, ap, ◌∙◌, arith, get_or, String, string_bytes, slice_get}
use Rattle.std.specs.BTreeMap.{BTreeMap, get_by_text}
use Rattle.std.specs.BTreeSet as sorted
use Rattle.std.specs.BTreeSet.{BTreeSet, contains_text}
use Rattle.std.specs.Ordering.{nat_cmp}
use Rattle.std.specs.Cmp.Lexicographic.{slice_cmp}
use Rattle.std.specs.Str.{bytes_eq}
use Rattle.std.specs.String.{string_cmp}
use Rattle.std.proofs.lemmas.Map.Text.{btree_set_updates_text}
use Rattle.std.proofs.lemmas.Option.{slice_get_within, slice_get-get_or}
use Rattle.std.proofs.lemmas.Slice.Eq.{bytes_eq-Decides}
use Rattle.avro_types.specs.Laws.Placed.{or_last, position-behind, used-push}
use Rattle.spec_schema.specs.Draft.{Draft, DraftField}
use Rattle.avro_schema_names.specs.Draft.{field_names}
use Rattle.spec_avro.specs.FullNames.{has_dot, inside, namespace_of, unqualified}
use Rattle.spec_schema.specs.Head.{Head, defined_at, defines, head_of, heads_of}
use Rattle.avro_schema_names.specs.Index.{AreNamesOf, IsIndexOf, namespaces_of}
use Rattle.avro_types.specs.Laws.Booleans.{false_by, same_by}
use Rattle.avro_types.specs.Laws.Dots.{namespace-inside, unqualified-inside}
use Rattle.avro_schema_names.proofs.DraftLists.{heads_of-append}
use Rattle.avro_schema_names.specs.Laws.Plain.{map-push}

cond_or : (a b : Bool) → cond a true b ≡ (a || b)
cond_or true b = refl
cond_or false b = refl

-- ---- full names, by namespace and last part

pub defined-behind : (full : List ℕ) (hs : List Head) (h : Head) → defined_at full (hs ++ h ∷ []) ≡ or_last (defines full h) (length hs) (defined_at full hs)
unfolding defined_at
defined-behind full hs h = position-behind (defines full) 0 hs h ∙ ap (λ n. or_last (defines full h) n (defined_at full hs)) (let z : 0 + length hs ≡ length hs = omega arith in z)

pub heads-behind : (ks : List Draft) (k : Draft) → heads_of (ks ++ k ∷ []) ≡ heads_of ks ++ head_of k ∷ []
heads-behind ks k = heads_of-append ks (k ∷ [])

-- names in one namespace differ where their last parts do
pub inside-same : (namespace last other : List ℕ) → has_dot last ≡ false → has_dot other ≡ false → bytes_eq (inside namespace last) (inside namespace other) ≡ bytes_eq last other
inside-same namespace last other none also =
    same_by (bytes_eq (inside namespace last) (inside namespace other)) (bytes_eq last other)
    (λ t. (bytes_eq-Decides last other).1 (sym (unqualified-inside namespace last none) ∙ ap unqualified ((bytes_eq-Decides (inside namespace last) (inside namespace other)).0 t) ∙ unqualified-inside namespace other also))
    (λ t. (bytes_eq-Decides (inside namespace last) (inside namespace other)).1 (ap (inside namespace) ((bytes_eq-Decides last other).0 t)))

-- and names in two namespaces always do
pub inside-apart : (full namespace other : List ℕ) → has_dot other ≡ false → (namespace_of full ≡ namespace → ⊥) → bytes_eq full (inside namespace other) ≡ false
inside-apart full namespace other none apart =
    false_by (bytes_eq full (inside namespace other))
    (λ t. apart (ap namespace_of ((bytes_eq-Decides full (inside namespace other)).0 t) ∙ namespace-inside namespace other none))

-- ---- looked up

module _ {A : Type 0} (numbers : BTreeMap (String A) ℕ) (scopes : List (BTreeMap (String A) ℕ)) (ks : List Draft) (known : IsIndexOf numbers scopes ks) where
  pub number-below : (number : ℕ) (namespace : List ℕ) → slice_get (namespaces_of (heads_of ks)) number ≡ Some namespace → number < length scopes
  number-below number namespace at = omega (arith, slice_get_within (namespaces_of (heads_of ks)) number namespace at, known.each_has_one)

  pub found-under : (number : ℕ) (namespace last : List ℕ) (scope : BTreeMap (String A) ℕ) → slice_get (namespaces_of (heads_of ks)) number ≡ Some namespace → scope ≡ get_or scopes number scope → has_dot last ≡ false
      → get_by_text scope last ≡ defined_at (inside namespace last) (heads_of ks)
  found-under number namespace last scope at is none = known.found number namespace last scope at (slice_get-get_or scopes number scope (number-below number namespace at) ∙ ap Some (sym is)) none

-- ---- fields

pub names-behind : {A : Type 0} (bs : List ℕ) (old new : BTreeSet (String A)) (fs gs : List DraftField) (f : DraftField) → AreNamesOf old fs → gs ≡ fs ++ f ∷ [] → bs ≡ f.name
    → sorted.UpdatesBy string_cmp (λ k. slice_cmp nat_cmp bs (string_bytes k)) old new true → AreNamesOf new gs
names-behind bs old new fs gs f known e is updates name =
    btree_set_updates_text bs old new true updates name
    ∙ cond_or (bytes_eq bs name) (contains_text old name)
    ∙ ap (λ b. bytes_eq bs name || b) (known name)
    ∙ rw (is, e, map-push (λ g. g.name) fs f) (sym (used-push name (field_names fs) f.name))
