-- Where a piece is wanting, the whole is.
use Rattle.std.proofs.lemmas.Result.{err_from_is_err_and}
use Rattle.upstream_answers.proofs.body.content_of.Goals as goal

pub returns-in_err-rest-clause-err : goal.returns-in_err-rest-clause-err
returns-in_err-rest-clause-err c =
    let p = err_from_is_err_and c.from_residual.result c.from_residual.ensures.1 in
    rw (p.1, p.2) (λ other whole has. c.in_err-rest.ensures.err other whole ((c.pieces.invariant.same whole).0 has))
