-- What is found of a schema beside older ones.
use Rattle.std.proofs.Common.{◌≡◌, List, [], ◌∷◌, ◌++◌, sym, subst}
use Rattle.std.specs.Prelude.{IsTrue, ◌↔◌}
use Rattle.spec_schema.specs.Schema.{Declaration}
use Rattle.schema_registry.specs.declared.candidate.Finding.{Finding}
use Rattle.spec_registry.specs.declared.level.Level.{Level}
use Rattle.spec_registry.specs.Answer.{AreSafe}
use Rattle.spec_registry.specs.Answers.{pairs_with}
use Rattle.schema_registry.specs.Found.{AreFound}
use Rattle.schema_registry_maps.specs.Laws.Plain.{all-push}

-- one finding more, at the level of the others
pub found-more : (level other : Level) (new old : Declaration) (found : List Finding) (f : Finding) → level ≡ other → f.old.now ≡ old → AreFound level new found
    → (IsTrue f.goes ↔ AreSafe (pairs_with other new old)) → AreFound level new (found ++ f ∷ [])
found-more level other new old found f same is all here =
    all-push (λ f. IsTrue f.goes ↔ AreSafe (pairs_with level new f.old.now)) found f all
    (subst (λ l. IsTrue f.goes ↔ AreSafe (pairs_with l new f.old.now)) (sym same) (subst (λ o. IsTrue f.goes ↔ AreSafe (pairs_with other new o)) (sym is) here))
