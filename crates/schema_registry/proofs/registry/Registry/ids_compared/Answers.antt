use Rattle.std.proofs.Common.{◌∙◌, ap, sym, map}
use Rattle.spec_registry.specs.Comparing.{compared}
use Rattle.spec_registry.specs.Level.{is_transitive}
use Rattle.spec_registry.specs.Lists.{Entry}
use Rattle.schema_registry.proofs.Entries.{compared-ids}
use Rattle.schema_registry.proofs.Kept.{versions-found}
use Rattle.schema_registry.proofs.registry.Registry.ids_compared.Goals as goal

pub returns-in-Some : goal.returns-in-Some
returns-in-Some c =
    let s = c.args.subject.now in
    let all = is_transitive c.args.level in
    let held = rw c.self.view_is at c.self.invariant.0 in
    let known = versions-found _ _ _ _ _ held s c.in-Some.versions.now (sym c.in-Some.ensures.value) in
    rw (c.compared.ensures, c.is_transitive.ensures, c.ids.ensures)
    (sym (ap (λ es. map (λ (e : Entry). e.id) (compared all es)) known.1 ∙ compared-ids all s c.in-Some.versions.now))
