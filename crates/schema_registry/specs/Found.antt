-- What is found of a new schema compared with older ones. This project's own.
use Rattle.std.specs.Prelude.{List, IsTrue, ◌↔◌}
use Rattle.std.specs.List.{AllByRecursion}
use Rattle.spec_schema.specs.Schema.{Declaration}
use Rattle.schema_registry.specs.declared.candidate.Finding.{Finding}
use Rattle.spec_registry.specs.declared.level.Level.{Level}
use Rattle.spec_registry.specs.Answer.{AreSafe}
use Rattle.spec_registry.specs.Answers.{pairs_with}

-- each finding says whether the pairs that the level names of the new schema and its older one are safe
abbrev pub AreFound : Level → Declaration → List Finding → Type 0
AreFound level new found = AllByRecursion (λ f. IsTrue f.goes ↔ AreSafe (pairs_with level new f.old.now)) found
