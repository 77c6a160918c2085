-- Lists of texts, as the symbols of an enum (Avro 1.11, "Enums"): the position of each, and whether one comes twice.
use Rattle.std.specs.Prelude.{ℕ, ◌&&◌, List, [], ◌∷◌, ◌++◌, Bool, true, not, Option}
use Rattle.std.specs.List.{list_any, position_from}
use Rattle.std.specs.Str.{bytes_eq}

abbrev pub is_used : List ℕ → List (List ℕ) → Bool
is_used text texts = list_any (λ other. bytes_eq other text) texts

-- none of the texts comes again, nor is one of those before
abbrev pub are_new : List (List ℕ) → List (List ℕ) → Bool
are_new before [] = true
are_new before (s ∷ ss) = not (is_used s before) && are_new (before ++ s ∷ []) ss

abbrev pub are_distinct : List (List ℕ) → Bool
are_distinct texts = are_new [] texts

-- the position of a text's first occurrence, from 0
abbrev pub place_of : List ℕ → List (List ℕ) → Option ℕ
place_of text texts = position_from (λ other. bytes_eq other text) 0 texts
