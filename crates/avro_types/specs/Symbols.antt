-- Positions that are those of texts. This project's own.
use Rattle.std.specs.Prelude.{◌≡◌, ℕ, List, map, String, string_bytes}
use Rattle.std.specs.BTreeMap.{BTreeMap, get_by_text}
use Rattle.spec_avro.specs.Symbols.{place_of}

-- under each text is the position where it comes first
abbrev pub ArePositionsOf : {A : Type 0} → BTreeMap (String A) ℕ → List (String A) → Type 0
ArePositionsOf positions texts = (text : List ℕ) → get_by_text positions text ≡ place_of text (map string_bytes texts)
