use Rattle.std.proofs.Common.{inl, refl, option_map, string_bytes}
use Rattle.std.proofs.lemmas.Result.{err_from_is_err_and}
use Rattle.spec_registry.specs.Accepting.{id_for, registry_after}
use Rattle.schema_registry.specs.Keeping.{KeptRegistration}
use Rattle.spec_registry.specs.Reply.{IdReply}
use Rattle.schema_registry.proofs.Restarts.{may-fail-level, may_register, new_kept}
use Rattle.schema_registry.proofs.Told.{registered-refusal}
use Rattle.schema_registry.proofs.kept_registry.KeptRegistry.apply.Goals as goal

pub returns-in_err-register-in-Register-clause-refused : goal.returns-in_err-register-in-Register-clause-refused
returns-in_err-register-in-Register-clause-refused g c =
    let p = err_from_is_err_and c.from_residual-in_err-register-in-Register.result c.from_residual-in_err-register-in-Register.ensures.1 in
    let s = string_bytes c.in-Register.subject in
    let t = string_bytes c.in-Register.text in
    let ok = rw (c.deref.ensures, c.deref-in-Register.ensures, ← c.new-schema.ensures) at c.in_ok-schema_for-in-Register.ensures.ok in
    rw (p.1, p.2, c.in-Register.is) (λ stored known.
    registered-refusal (registry_after c.args.self.now.registry) s t c.new-schema.result ok.0 ok.1 c.in_err-register-in-Register.field-0.0
    (c.in_err-register-in-Register.ensures.refused stored known))

pub returns-in_err-register-in-Register-clause-unstored : goal.returns-in_err-register-in-Register-clause-unstored
returns-in_err-register-in-Register-clause-unstored g c =
    let p = err_from_is_err_and c.from_residual-in_err-register-in-Register.result c.from_residual-in_err-register-in-Register.ensures.1 in
    let s = string_bytes c.in-Register.subject in
    let t = string_bytes c.in-Register.text in
    let old = c.args.self.now.registry in
    let id = id_for c.new-schema.result (registry_after old).schemas in
    let ok = rw (c.deref.ensures, c.deref-in-Register.ensures, ← c.new-schema.ensures) at c.in_ok-schema_for-in-Register.ensures.ok in
    let failed = c.in_err-register-in-Register.ensures.unstored in
    rw (p.1, p.2, c.in-Register.is) (λ is. record {
      reply = IdReply id;
      accepted = may_register old s t c.new-schema.result ok.0 ok.1 id ((failed is).0, refl);
      changes = λ asks. asks;
      why = inl (KeptRegistration id s t, new_kept old s t c.new-schema.result ok.0 ok.1 id ((failed is).0, refl), (failed is).1);
    })

pub returns-in-SetLevel-clause-unstored : goal.returns-in-SetLevel-clause-unstored
returns-in-SetLevel-clause-unstored g c =
    rw c.in-SetLevel.is (may-fail-level g.K.Keeper.fails (registry_after c.args.self.now.registry) (option_map string_bytes c.in-SetLevel.subject) c.in-SetLevel.level
    c.args.self.now.keeper c.set_level.new.self.keeper c.set_level.result c.set_level.ensures.unstored)
