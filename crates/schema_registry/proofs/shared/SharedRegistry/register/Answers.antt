use Rattle.std.proofs.Common.{inr}
use Rattle.std.proofs.lemmas.Result.{err_from_is_err_and}
use Rattle.schema_registry.proofs.shared.SharedRegistry.register.Goals as goal

pub returns-in_err-receipt-clause-answer : goal.returns-in_err-receipt-clause-answer
returns-in_err-receipt-clause-answer g c =
    let p = err_from_is_err_and c.from_residual.result c.from_residual.ensures.1 in
    rw (p.1, p.2) (c.in_err-receipt.ensures.answer.0, λ known. inr (c.in_err-receipt.ensures.answer.1 known))
