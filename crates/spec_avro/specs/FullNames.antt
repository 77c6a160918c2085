-- The rules for names, and full names: a namespace and a last part (Avro 1.11, "Names").
use Rattle.std.specs.Prelude.{◌≡◌, ℕ, ◌==◌, ◌&&◌, ◌||◌, List, [], ◌∷◌, ◌++◌, Bool, true, false, nat_le, if◌then◌else◌}
use Rattle.std.specs.List.{list_any, list_all, slice_split, before_last, after_last}

-- a letter of ASCII, or an underscore
abbrev pub is_letter : ℕ → Bool
is_letter c = (nat_le 65 c && nat_le c 90) || (nat_le 97 c && nat_le c 122) || (c == 95)

abbrev pub is_letter_or_digit : ℕ → Bool
is_letter_or_digit c = is_letter c || (nat_le 48 c && nat_le c 57)

unfoldable pub is_name : List ℕ → Bool
is_name [] = false
is_name (c ∷ cs) = is_letter c && list_all is_letter_or_digit cs

-- ---- full names and namespaces

abbrev pub dot : ℕ
dot = 46

abbrev pub is_dot : ℕ → Bool
is_dot c = c == dot

abbrev pub has_dot : List ℕ → Bool
has_dot s = list_any is_dot s

-- names joined by dots
abbrev pub is_full_name : List ℕ → Bool
is_full_name s = list_all is_name (slice_split is_dot s)

abbrev pub namespace_of : List ℕ → List ℕ
namespace_of full = before_last is_dot full

abbrev pub unqualified : List ℕ → List ℕ
unqualified full = after_last is_dot full

-- a last part after its namespace, which may be the null one
abbrev pub inside : List ℕ → List ℕ → List ℕ
inside [] s = s
inside (c ∷ cs) s = (c ∷ cs) ++ dot ∷ s

-- the full name that a name means in a namespace
abbrev pub full_name : List ℕ → List ℕ → List ℕ
full_name enclosing s = if has_dot s then s else inside enclosing s

-- ---- a full name in its two parts

-- the null namespace, or names joined by dots
abbrev pub is_namespace : List ℕ → Bool
is_namespace [] = true
is_namespace (c ∷ cs) = is_full_name (c ∷ cs)

-- what a type's full name is made of
pub record AreParts (namespace last : List ℕ) : Type 0 where
  pub namespace_is : is_namespace namespace ≡ true
  pub last_is : is_name last ≡ true
