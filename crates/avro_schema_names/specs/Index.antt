-- Names kept in order beside what has them, so that each is found without a look at the others.
use Rattle.std.specs.Prelude.{◌≡◌, ℕ, List, [], ◌∷◌, ◌++◌, length, false, if◌then◌else◌, Option, Some, None, String, slice_get}
use Rattle.std.specs.Arc.{arc_str_bytes}
use Rattle.std.specs.BTreeMap.{BTreeMap, UpdatesBy, get_by_text}
use Rattle.std.specs.Cmp.Lexicographic.{slice_cmp}
use Rattle.std.specs.String.{string_bytes, string_cmp}
use Rattle.std.specs.BTreeSet.{BTreeSet, contains_text}
use Rattle.std.specs.Ordering.{nat_cmp}
use Rattle.avro_types.specs.declared.name.Name.{Name}
use Rattle.avro_schema_names.specs.declared.namespace.Namespace.{Namespace}
use Rattle.spec_schema.specs.Draft.{Draft, DraftField}
use Rattle.avro_schema_names.specs.Draft.{field_names}
use Rattle.spec_avro.specs.FullNames.{dot, has_dot, inside, namespace_of}
use Rattle.spec_schema.specs.Head.{Head, Named, defined_at, heads_of}
use Rattle.spec_avro.specs.Symbols.{is_used, place_of}

-- ---- namespaces

-- the namespaces so far, and that of one more name
abbrev pub with_namespace : List (List ℕ) → Head → List (List ℕ)
with_namespace before (Named full) =
    if is_used (namespace_of full) before then before else before ++ namespace_of full ∷ []
with_namespace before _ = before

abbrev pub namespaces_after : List (List ℕ) → List Head → List (List ℕ)
namespaces_after before [] = before
namespaces_after before (h ∷ hs) = namespaces_after (with_namespace before h) hs

-- the null namespace, and those of the names, each where it first comes
unfoldable pub namespaces_of : List Head → List (List ℕ)
namespaces_of hs = namespaces_after ([] ∷ []) hs

abbrev pub text_of_namespace : Namespace → List ℕ
text_of_namespace enclosing = arc_str_bytes enclosing.text

-- the namespace is one of theirs, under its number
abbrev pub IsNamespaceOf : Namespace → List Draft → Type 0
IsNamespaceOf enclosing ds =
    slice_get (namespaces_of (heads_of ds)) enclosing.number ≡ Some (text_of_namespace enclosing)

-- the number is that of the name's namespace, where it has one
abbrev pub IsNumbered : Name → Option ℕ → List Draft → Type 0
IsNumbered name number ds = number ≡ place_of (namespace_of name) (namespaces_of (heads_of ds))

-- ---- names

-- each name is that of one node
abbrev pub AreOnce : List Head → Type 0
AreOnce heads = (n : ℕ) (full : List ℕ) → slice_get heads n ≡ Some (Named full) → defined_at full heads ≡ Some n

-- no full name begins with a dot
abbrev pub BeginWithNoDot : List Head → Type 0
BeginWithNoDot heads = (last : List ℕ) → defined_at (dot ∷ last) heads ≡ None

-- the map has a number under one text alone
abbrev pub HasOnly : {A : Type 0} → List ℕ → ℕ → BTreeMap (String A) ℕ → Type 0
HasOnly {A = A} text n map = (empty : BTreeMap (String A) ℕ) × ((other : List ℕ) → get_by_text empty other ≡ None)
    × UpdatesBy string_cmp (λ key. slice_cmp nat_cmp text (string_bytes key)) empty map (Some n)

-- one map more, which has a number under one text alone
abbrev pub HasOnlyScope : {A : Type 0} → List ℕ → ℕ → List (BTreeMap (String A) ℕ) → List (BTreeMap (String A) ℕ)
    → Type 0
HasOnlyScope {A = A} text n before after =
    (map : BTreeMap (String A) ℕ) × HasOnly text n map × (after ≡ before ++ map ∷ [])

-- Under each namespace is its number, and under that, by the last part of a full name, the node that defines it.
pub record IsIndexOf {A : Type 0} (numbers : BTreeMap (String A) ℕ) (scopes : List (BTreeMap (String A) ℕ))
    (ds : List Draft) : Type 0 where
  pub numbered : (namespace : List ℕ)
      → get_by_text numbers namespace ≡ place_of namespace (namespaces_of (heads_of ds))
  pub each_has_one : length scopes ≡ length (namespaces_of (heads_of ds))
  pub found : (number : ℕ) (namespace last : List ℕ) (scope : BTreeMap (String A) ℕ)
      → slice_get (namespaces_of (heads_of ds)) number ≡ Some namespace
      → slice_get scopes number ≡ Some scope
      → has_dot last ≡ false → get_by_text scope last ≡ defined_at (inside namespace last) (heads_of ds)
  pub once : AreOnce (heads_of ds)
  pub begins_none : BeginWithNoDot (heads_of ds)

-- the names are those of the fields
abbrev pub AreNamesOf : {A : Type 0} → BTreeSet (String A) → List DraftField → Type 0
AreNamesOf names fs = (name : List ℕ) → contains_text names name ≡ is_used name (field_names fs)
