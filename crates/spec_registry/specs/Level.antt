-- The levels of compatibility (Confluent Schema Registry, "Compatibility types").
use Rattle.std.specs.Prelude.{ℕ, List, [], ◌∷◌, find, Option, Bool, true, false, codes}
use Rattle.std.specs.Str.{bytes_eq}
use Rattle.spec_registry.specs.declared.level.Level.{Level}
use Rattle.spec_registry.specs.declared.level.Level.TheVariants as levels

abbrev pub all_levels : List Level
all_levels =
    levels.Backward ∷ levels.BackwardTransitive ∷ levels.Forward ∷ levels.ForwardTransitive
    ∷ levels.Full ∷ levels.FullTransitive ∷ levels.None ∷ []

abbrev pub level_name : Level → List ℕ
level_name levels.Backward = codes "BACKWARD"
level_name levels.BackwardTransitive = codes "BACKWARD_TRANSITIVE"
level_name levels.Forward = codes "FORWARD"
level_name levels.ForwardTransitive = codes "FORWARD_TRANSITIVE"
level_name levels.Full = codes "FULL"
level_name levels.FullTransitive = codes "FULL_TRANSITIVE"
level_name levels.None = codes "NONE"

-- the level with a name
unfoldable pub level_named : List ℕ → Option Level
level_named word = find (λ level. bytes_eq word (level_name level)) all_levels

-- a new schema reads what an older one wrote
abbrev pub new_reads_old : Level → Bool
new_reads_old levels.Backward = true
new_reads_old levels.BackwardTransitive = true
new_reads_old levels.Full = true
new_reads_old levels.FullTransitive = true
new_reads_old levels.Forward = false
new_reads_old levels.ForwardTransitive = false
new_reads_old levels.None = false

-- an older schema reads what a new one writes
abbrev pub old_reads_new : Level → Bool
old_reads_new levels.Forward = true
old_reads_new levels.ForwardTransitive = true
old_reads_new levels.Full = true
old_reads_new levels.FullTransitive = true
old_reads_new levels.Backward = false
old_reads_new levels.BackwardTransitive = false
old_reads_new levels.None = false

-- all versions are compared, and not only the latest
abbrev pub is_transitive : Level → Bool
is_transitive levels.BackwardTransitive = true
is_transitive levels.ForwardTransitive = true
is_transitive levels.FullTransitive = true
is_transitive levels.Backward = false
is_transitive levels.Forward = false
is_transitive levels.Full = false
is_transitive levels.None = false
