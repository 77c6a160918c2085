use Rattle.std.proofs.Common.{subst, sym, string_bytes}
use Rattle.std.proofs.lemmas.Result.{err_from_is_err_and}
use Rattle.spec_registry.specs.Accepting.{registry_after}
use Rattle.schema_registry.specs.Answer.{Gives}
use Rattle.spec_registry.specs.Answers.{version_answer}
use Rattle.spec_registry.specs.Command.{LookupCommand}
use Rattle.spec_registry.specs.Lists.{no_lists}
use Rattle.schema_registry.proofs.SomeAnswer.{early-refusal, some-answer}
use Rattle.schema_registry.proofs.Told.{lookup-is, short-text, whatever-refused}
use Rattle.schema_registry.proofs.shared.SharedRegistry.lookup.Goals as goal

pub returns-in_err-schema : goal.returns-in_err-schema
returns-in_err-schema g c =
    let p = err_from_is_err_and c.from_residual.result c.from_residual.ensures.1 in
    let refused = rw c.deref.ensures at c.in_err-schema.ensures.err in
    let memory = rw c.deref.ensures at c.in_err-schema.ensures.memory in
    let s = string_bytes c.args.subject in
    rw (p.1, p.2) (early-refusal (LookupCommand s c.args.text.now) c.in_err-schema.field-0.0 memory (λ known. refused known (version_answer no_lists s)))

pub returns : goal.returns
returns g c =
    let commands = c.registry-registry.result.now in
    let s = string_bytes c.args.subject in
    let ok = rw c.deref.ensures at c.in_ok-schema.ensures.ok in
    let is = lookup-is (registry_after commands) s c.args.text.now c.in_ok-schema.schema ok.0 ok.1 in
    some-answer commands (LookupCommand s c.args.text.now) c.lookup_schema.result c.is_accepted.ensures
    (subst (λ a. Gives a c.lookup_schema.result) (sym is) c.lookup_schema.ensures)
    (whatever-refused c.lookup_schema.result (ok.0, short-text c.args.text.now c.in_ok-schema.schema ok.1))
