-- Aliases of a type, each by the rule for full names.
use Rattle.std.proofs.Common.{◌≡◌, ℕ, List, [], ◌∷◌, Bool, true, false, refl, ◌∙◌, string_bytes, String, Global}
use Rattle.std.specs.List.{list_all}
use Rattle.spec_avro.specs.Aliases.{full_names}
use Rattle.spec_avro.specs.FullNames.{full_name, has_dot, is_full_name, is_name, is_namespace}
use Rattle.avro_types.specs.Laws.Booleans.{and_true}
use Rattle.avro_types.specs.Laws.NameParts.{full-inside, undotted-part}
use Rattle.avro_types.specs.Laws.Plain.{names}

-- a text means a full name by the rule just where it is one itself
module _ (own : List ℕ) (space : is_namespace own ≡ true) where
  by_dots : (t : List ℕ) (b : Bool) → has_dot t ≡ b → is_full_name (full_name own t) ≡ is_full_name t
  by_dots t true dotted = rw dotted refl
  by_dots t false none = rw none (full-inside own t none ∙ rw (space, undotted-part t none, and_true (is_name t)) refl)

  pub all_full : (ts : List (String Global)) → list_all is_full_name (full_names own (names ts)) ≡ list_all (λ s. is_full_name (string_bytes s)) ts
  all_full [] = refl
  all_full (t ∷ ts) = rw (by_dots (string_bytes t) (has_dot (string_bytes t)) refl, all_full ts) refl
