-- What attributes give, as relations (Avro 1.11, "Aliases", "Enums" and "Fixed").
use Rattle.spec_avro.specs.declared.limits.TheConstants.{MOST_FIXED, MOST_SYMBOLS}
use Rattle.std.specs.Prelude.{◌≡◌, ℕ, ◌≤◌, List, [], ◌∷◌, length, map, true, Option, Some, None, slice_get}
use Rattle.std.specs.List.{AllByRecursion, IsDistinct}
use Rattle.std.specs.Str.{bytes_eq}
use Rattle.serde_json.specs.Data.{Data, unsigned, number, string, array, Items, no_items, item}
use Rattle.spec_avro.specs.FullNames.{full_name, is_full_name, is_name, namespace_of}

-- a list of texts
abbrev pub texts : List (List ℕ) → Items
texts [] = no_items
texts (s ∷ ss) = item (string s) (texts ss)

-- ---- aliases

-- the value, where there is one, lists these texts
pub data ListsAliases : Option Data → List (List ℕ) → Type 0 where
  no_aliases : ListsAliases None []
  aliases_of : {ss : List (List ℕ)} → ListsAliases (Some (array (texts ss))) ss

-- "A type alias may be specified either as a fully namespace-qualified, or relative to the namespace of the name it is
-- an alias for": the type of this full name has these as full names
pub record AreTypeAliases (value : Option Data) (full : List ℕ) (aliases : List (List ℕ)) : Type 0 where
  pub written : List (List ℕ)
  pub lists : ListsAliases value written
  pub means : map (full_name (namespace_of full)) written ≡ aliases
  pub by_rule : AllByRecursion (λ s. is_full_name s ≡ true) aliases

-- a field has these
pub record AreFieldAliases (value : Option Data) (aliases : List (List ℕ)) : Type 0 where
  pub lists : ListsAliases value aliases
  pub by_rule : AllByRecursion (λ s. is_name s ≡ true) aliases

-- ---- enums and fixed

-- the value lists these symbols, by the rule for names and each another; how many there may be is this project's own
pub record IsSymbols (value : Option Data) (ss : List (List ℕ)) : Type 0 where
  pub is : value ≡ Some (array (texts ss))
  pub by_rule : AllByRecursion (λ s. is_name s ≡ true) ss
  pub distinct : IsDistinct bytes_eq ss
  pub few : length ss ≤ MOST_SYMBOLS

-- the value, where there is one, is the symbol of that position
pub data IsDefaultSymbol (ss : List (List ℕ)) : Option Data → Option ℕ → Type 0 where
  no_default : IsDefaultSymbol ss None None
  the_symbol : {s : List ℕ} {n : ℕ} → slice_get ss n ≡ Some s → IsDefaultSymbol ss (Some (string s)) (Some n)

-- the value is this whole number; how large it may be is this project's own
pub data IsSize : Option Data → ℕ → Type 0 where
  a_size : {n : ℕ} → n ≤ MOST_FIXED → IsSize (Some (number (unsigned n))) n
