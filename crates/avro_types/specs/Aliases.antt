-- Where each alias of a type is found, as the code keeps them (Avro 1.11, "Aliases"). This project's own.
use Rattle.std.specs.Prelude.{◌≡◌, ℕ, ◌&&◌, ◌||◌, List, map, Bool, false, Option, Some, None, String, string_bytes}
use Rattle.std.specs.BTreeMap.{BTreeMap, get_by_text}
use Rattle.std.specs.BTreeSet.{BTreeSet, contains_text}
use Rattle.std.specs.Str.{bytes_eq}
use Rattle.spec_avro.specs.FullNames.{has_dot, inside}
use Rattle.spec_avro.specs.Symbols.{is_used}
use Rattle.spec_avro.specs.Aliases.{full_names}

-- ---- for private clauses: last parts under their namespaces

abbrev pub has_last : {A : Type 0} → Option (BTreeSet (String A)) → List ℕ → Bool
has_last None last = false
has_last (Some lasts) last = contains_text lasts last

abbrev pub stands_under : {A B : Type 0} → BTreeMap (String A) (BTreeSet (String B)) → List ℕ → List ℕ → Bool
stands_under qualified namespace last = has_last (get_by_text qualified namespace) last

-- the last part is a relative alias, and the namespace is that of the type; or it is under the namespace
abbrev pub is_found : {A B C : Type 0} → List ℕ
    → BTreeSet (String A) → BTreeMap (String B) (BTreeSet (String C)) → List ℕ → List ℕ → Bool
is_found own relative qualified namespace last =
    (bytes_eq namespace own && contains_text relative last) || stands_under qualified namespace last

-- A full name is one of those that the texts mean where it is found.
abbrev pub AreFound : {A B C D : Type 0} → List ℕ
    → List (String A) → BTreeSet (String B) → BTreeMap (String C) (BTreeSet (String D)) → Type 0
AreFound own texts relative qualified = (namespace last : List ℕ) → has_dot last ≡ false
    → is_used (inside namespace last) (full_names own (map string_bytes texts))
    ≡ is_found own relative qualified namespace last
