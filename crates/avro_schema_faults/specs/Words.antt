-- The word in question at the end of a path (Avro 1.11 Specification, "Names").
use Rattle.std.specs.Prelude.{ℕ, List, Option, Some, option_and_then, codes}
use Rattle.serde_json.specs.Data.{Data, string}
use Rattle.serde_json.specs.Find.{as_str, get}
use Rattle.avro_schema_paths.specs.Following.{follow}
use Rattle.avro_schema_paths.specs.Places.{Path}

-- a text, or the text at `name` of an object
abbrev pub word_in : Data → Option (List ℕ)
word_in (string s) = Some s
word_in d = option_and_then as_str (get (codes "name") d)

abbrev pub word_at : Path → Data → Option (List ℕ)
word_at path d = option_and_then word_in (follow path d)
