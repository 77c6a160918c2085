-- What maps have under their texts: ids, the versions of subjects, and what is set for a subject. This project's own.
use Rattle.std.specs.Prelude.{◌≡◌, ◌≤◌, ℕ, ◌+◌, ◌==◌, List, [], Option, Some, None, String, nat_eq, unwrap_or, if◌then◌else◌}
use Rattle.std.specs.BTreeMap.{BTreeMap, get, get_by_text}
use Rattle.std.specs.Global.{Global}
use Rattle.std.specs.List.{AllByRecursion, IsDistinct, position_from}
use Rattle.std.specs.Option.{option_and_then}
use Rattle.std.specs.Ordering.{nat_cmp}
use Rattle.std.specs.Str.{bytes_eq}
use Rattle.schema_registry_maps.specs.declared.limits.TheConstants.{MOST_ID}

-- ---- what a change leaves

-- the new map has `x` under the text, and under each other text what the old one has
abbrev pub Puts : {X : Type 0} → BTreeMap (String Global) X → BTreeMap (String Global) X → List ℕ → X → Type 0
Puts old new text x = (t : List ℕ) → get_by_text new t ≡ (if bytes_eq text t then Some x else get_by_text old t)

-- the new map has under each text what the old one has
abbrev pub AreSame : {X : Type 0} → BTreeMap (String Global) X → BTreeMap (String Global) X → Type 0
AreSame old new = (t : List ℕ) → get_by_text new t ≡ get_by_text old t

-- ---- ids

-- the id under a text, or the next one after `count` ids
abbrev pub id_or_next : BTreeMap (String Global) ℕ → List ℕ → ℕ → ℕ
id_or_next ids text count = unwrap_or (get_by_text ids text) (count + 1)

-- ---- the versions of a subject

-- the number of an id among those of a subject's versions, from 1
abbrev pub number_of : ℕ → List ℕ → Option ℕ
number_of id ids = position_from (λ i. i == id) 1 ids

-- the map has under each id of a subject's versions the version's number; no id occurs twice
pub record AreNumbersOf (numbers : BTreeMap ℕ ℕ) (ids : List ℕ) : Type 0 where
  pub found : (id : ℕ) → get nat_cmp numbers id ≡ number_of id ids
  pub distinct : IsDistinct nat_eq ids
  pub known : AllByRecursion (λ id. id ≤ MOST_ID) ids

-- the ids under the name of a subject
abbrev pub ids_in : Option (List ℕ) → List ℕ
ids_in None = []
ids_in (Some ids) = ids

-- ---- what is set for a subject

-- its own, and else the global one
abbrev pub set_for : {L : Type 0} → BTreeMap (String Global) L → L → Option (List ℕ) → L
set_for own global subject = unwrap_or (option_and_then (get_by_text own) subject) global
