-- The aliases of a type as full names (Avro 1.11, "Aliases").
use Rattle.std.specs.Prelude.{ℕ, List, map}
use Rattle.spec_avro.specs.FullNames.{full_name}

-- the full names that texts mean for a type in a namespace
abbrev pub full_names : List ℕ → List (List ℕ) → List (List ℕ)
full_names namespace texts = map (full_name namespace) texts
