-- What a schema has to go together with before it becomes a version of a subject. This project's own.
use Rattle.std.specs.Prelude.{◌≡◌, ℕ, List, map, Some}
use Rattle.spec_registry.specs.Comparing.{compared}
use Rattle.spec_registry.specs.declared.level.Level.{Level}
use Rattle.schema_registry.specs.declared.requirement.Requirement.{Requirement}
use Rattle.spec_registry.specs.Level.{is_transitive}
use Rattle.spec_registry.specs.Lists.{Lists, level_of, versions_of}

-- the ids of the versions of a subject that a level names
abbrev pub ids_compared : Lists → List ℕ → Level → List ℕ
ids_compared lists subject level = map (λ e. e.id) (compared (is_transitive level) (versions_of subject lists.entries))

-- the level of the subject, and the ids that it names
abbrev pub IsRequirementOf : Lists → List ℕ → Requirement → Type 0
IsRequirementOf lists subject r =
    (r.level ≡ level_of (Some subject) lists.levels)
    × (r.ids.items ≡ ids_compared lists subject (level_of (Some subject) lists.levels))
