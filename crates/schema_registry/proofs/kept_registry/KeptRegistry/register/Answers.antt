use Rattle.std.proofs.lemmas.Result.{err_from_is_err_and}
use Rattle.schema_registry.proofs.Restarts.{beside}
use Rattle.schema_registry.proofs.kept_registry.KeptRegistry.register.Goals as goal

pub returns-in_err-known-clause-refused : goal.returns-in_err-known-clause-refused
returns-in_err-known-clause-refused g c =
    let p = err_from_is_err_and c.from_residual.result c.from_residual.ensures.1 in
    rw (p.1, p.2, ← c.self.view_is) (λ stored. rw c.deref.ensures at c.in_err-known.ensures.err)

pub register_new-requires-clause-decided : goal.register_new-requires-clause-decided
register_new-requires-clause-decided g c = rw (← c.self.view_is) (rw (c.in-New.is, c.deref.ensures) at c.in_ok-known.ensures.ok)

pub returns-in-New-clause-unstored : goal.returns-in-New-clause-unstored
returns-in-New-clause-unstored g c =
    let decided = rw (c.in-New.is, c.deref.ensures) at c.in_ok-known.ensures.ok in
    beside _ _ c.register_new.result (rw (← c.self.view_is) decided.0) (rw (← c.self.view_is) (rw (← c.self.view_is, decided.1) at c.register_new.ensures.unstored))
