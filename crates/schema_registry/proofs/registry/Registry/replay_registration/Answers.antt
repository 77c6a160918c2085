use Rattle.std.proofs.Common.{◌≡◌, ◌∙◌, ap, string_bytes}
use Rattle.std.proofs.lemmas.Result.{err_from_is_err_and}
use Rattle.spec_registry.specs.Accepting.{registry_after}
use Rattle.schema_registry.specs.Keeping.{kept_in}
use Rattle.schema_registry.proofs.Restarts.{decided_kept, new_after, new_kept}
use Rattle.schema_registry.proofs.Told.{registered-refusal}
use Rattle.schema_registry.proofs.registry.Registry.replay_registration.Goals as goal

pub returns-in_err-next-clause-why : goal.returns-in_err-next-clause-why
returns-in_err-next-clause-why c =
    let p = err_from_is_err_and c.from_residual-in_err-next.result c.from_residual-in_err-next.ensures.1 in
    let s = string_bytes c.args.subject in
    let t = string_bytes c.args.text in
    let ok = rw (c.deref.ensures, c.deref-2.ensures, ← c.new-schema.ensures) at c.in_ok-schema_for.ensures.ok in
    let refused = rw c.deref-3.ensures at c.in_err-next.ensures.err in
    rw (p.1, p.2) (λ known. registered-refusal (registry_after c.args.self.now) s t c.new-schema.result ok.0 ok.1 c.in_err-next.field-0.0 (refused known))

pub returns-in_default-clause-why : goal.returns-in_default-clause-why
returns-in_default-clause-why c =
    let ok = rw (c.deref.ensures, c.deref-2.ensures, ← c.new-schema.ensures) at c.in_ok-schema_for.ensures.ok in
    let decided = rw c.deref-3.ensures at c.in_ok-next.ensures.ok in
    decided_kept c.args.self.now (string_bytes c.args.subject) (string_bytes c.args.text) c.new-schema.result ok.0 ok.1 c.in_ok-next.field-0 decided c.in_default.not-New

pub returns-then-next-id-clause-why : goal.returns-then-next-id-clause-why
returns-then-next-id-clause-why c =
    let ok = rw (c.deref.ensures, c.deref-2.ensures, ← c.new-schema.ensures) at c.in_ok-schema_for.ensures.ok in
    let decided = rw (c.deref-3.ensures, c.in-New.is) at c.in_ok-next.ensures.ok in (
      new_kept c.args.self.now (string_bytes c.args.subject) (string_bytes c.args.text) c.new-schema.result ok.0 ok.1 c.in-New.next decided,
      λ same. c.if-next-id.true (let is : c.in-New.next ≡ c.args.id = cc in is),
    )

pub register_decided-requires-clause-decided : goal.register_decided-requires-clause-decided
register_decided-requires-clause-decided c = rw (c.deref-3.ensures, c.in-New.is) at c.in_ok-next.ensures.ok

pub returns-clause-kept : goal.returns-clause-kept
returns-clause-kept c =
    let s = string_bytes c.args.subject in
    let t = string_bytes c.args.text in
    let ok = rw (c.deref.ensures, c.deref-2.ensures, ← c.new-schema.ensures) at c.in_ok-schema_for.ensures.ok in
    let decided = rw (c.deref-3.ensures, c.in-New.is, c.if-next-id.false) at c.in_ok-next.ensures.ok in
    ap kept_in c.in_ok-register_decided.ensures.ok ∙ new_after c.args.self.now s t c.new-schema.result ok.0 ok.1 c.args.id decided
