use Rattle.std.proofs.Common.{subst, sym, Err, string_bytes}
use Rattle.std.proofs.lemmas.Result.{err_from_is_err_and}
use Rattle.spec_registry.specs.Accepting.{registry_after}
use Rattle.spec_registry.specs.Answer.{IsAnswer}
use Rattle.spec_registry.specs.Answers.{answer_to}
use Rattle.spec_registry.specs.Command.{RegisterCommand}
use Rattle.schema_registry.proofs.SomeAnswer.{memory-refused, registration-grows, unstored-registration, why-refused}
use Rattle.schema_registry.proofs.Told.{asked-grows, registered-refusal}
use Rattle.schema_registry.proofs.shared.SharedRegistry.register_candidate.Goals as goal

pub returns-in_err-shown-clause-answer : goal.returns-in_err-shown-clause-answer
returns-in_err-shown-clause-answer g c =
    let p = err_from_is_err_and c.from_residual.result c.from_residual.ensures.1 in
    let command = RegisterCommand (string_bytes c.args.subject) (string_bytes c.args.text) in
    rw (p.1, p.2) (memory-refused command (registration-grows (string_bytes c.args.subject) (string_bytes c.args.text) c.args.candidate.now c.requires))

pub returns-in_err-compare_ahead-clause-answer : goal.returns-in_err-compare_ahead-clause-answer
returns-in_err-compare_ahead-clause-answer g c =
    let p = err_from_is_err_and c.from_residual-in_err-compare_ahead.result c.from_residual-in_err-compare_ahead.ensures.1 in
    let command = RegisterCommand (string_bytes c.args.subject) (string_bytes c.args.text) in
    rw (p.1, p.2) (memory-refused command (registration-grows (string_bytes c.args.subject) (string_bytes c.args.text) c.args.candidate.now c.requires))

pub returns-in_err-id-clause-answer : goal.returns-in_err-id-clause-answer
returns-in_err-id-clause-answer g c =
    let p = err_from_is_err_and c.from_residual-in_err-id.result c.from_residual-in_err-id.ensures.1 in
    let asks = c.requires in
    let s = string_bytes c.args.subject in
    let t = string_bytes c.args.text in
    let schema = c.args.candidate.now in
    let commands = c.deref_mut.result.now.registry in
    let lists = registry_after commands in
    let accepted = rw (c.registry.ensures, c.deref-2.ensures, ← c.deref_mut.ensures.value) at c.is_accepted.ensures in
    let refusal = c.in_err-id.field-0.0 in
    let refused = rw c.compare_ahead.ensures at c.in_err-id.ensures.refused in
    let unstored = rw c.compare_ahead.ensures at c.in_err-id.ensures.unstored in
    rw (p.1, p.2) (
      λ _. record { commands = commands; accepted = accepted; grows = asked-grows lists s t schema asks },
      why-refused commands (RegisterCommand s t) refusal accepted (λ asks. asks)
          (λ stored no_want. subst (λ command. IsAnswer (answer_to lists command) (Err refusal)) (sym asks.command_is)
          (registered-refusal lists s asks.text schema asks.subject_is asks.declares refusal (refused stored no_want)))
          (λ is. unstored-registration commands s t schema asks (unstored is).0),
    )
