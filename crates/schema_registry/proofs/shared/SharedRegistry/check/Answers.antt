use Rattle.std.proofs.Common.{refl, subst, sym}
use Rattle.std.proofs.lemmas.Result.{err_from_is_err_and}
use Rattle.spec_registry.specs.declared.refusal.Refusal.TheVariants.{NoMemory}
use Rattle.spec_registry.specs.Accepting.{registry_after}
use Rattle.schema_registry.specs.Answer.{Gives}
use Rattle.spec_registry.specs.Answers.{comparison}
use Rattle.spec_registry.specs.Command.{CheckCommand}
use Rattle.spec_registry.specs.Lists.{no_lists}
use Rattle.schema_registry.proofs.SomeAnswer.{early-refusal, some-answer}
use Rattle.schema_registry.proofs.Told.{beside-is, short-text, whatever-refused}
use Rattle.schema_registry.proofs.shared.SharedRegistry.check.Goals as goal

pub returns-in_err-schema : goal.returns-in_err-schema
returns-in_err-schema g c =
    let p = err_from_is_err_and c.from_residual.result c.from_residual.ensures.1 in
    let s = c.args.subject.now in
    rw (p.1, p.2) (early-refusal (CheckCommand s c.args.version c.args.text.now) c.in_err-schema.field-0.0 c.in_err-schema.ensures.memory
    (λ known. c.in_err-schema.ensures.err known (comparison no_lists s c.args.version)))

pub returns-in_err-compare_beside : goal.returns-in_err-compare_beside
returns-in_err-compare_beside g c =
    let p = err_from_is_err_and c.from_residual-in_err-compare_beside.result c.from_residual-in_err-compare_beside.ensures.1 in
    let ok = c.in_ok-schema.ensures.ok in
    rw (p.1, p.2) (early-refusal (CheckCommand c.args.subject.now c.args.version c.args.text.now) NoMemory
    (λ _. (ok.0, ok.1, short-text c.args.text.now c.in_ok-schema.schema ok.2)) (λ other. absurd (other refl)))

pub returns : goal.returns
returns g c =
    let commands = c.registry-registry.result.now in
    let ok = c.in_ok-schema.ensures.ok in
    let is = beside-is (registry_after commands) c.args.subject.now ok.0 c.args.version ok.1 c.args.text.now c.in_ok-schema.schema ok.2 in
    some-answer commands (CheckCommand c.args.subject.now c.args.version c.args.text.now) c.check_schema.result c.is_accepted.ensures
    (subst (λ a. Gives a c.check_schema.result) (sym is) (rw (c.compare_beside.ensures, c.new-candidate.ensures) at c.check_schema.ensures))
    (whatever-refused c.check_schema.result (ok.0, ok.1, short-text c.args.text.now c.in_ok-schema.schema ok.2))
