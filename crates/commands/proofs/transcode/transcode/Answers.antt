-- Want of memory for an answer.
use Rattle.std.proofs.Common.{inl, refl}
use Rattle.std.proofs.lemmas.Result.{err_from_is_err_and}
use Rattle.commands.proofs.transcode.transcode.Goals as goal

pub returns-in_err-answers-in-Ok-clause-err : goal.returns-in_err-answers-in-Ok-clause-err
returns-in_err-answers-in-Ok-clause-err c =
    let p = err_from_is_err_and c.from_residual.result c.from_residual.ensures.1 in
    rw (p.1, p.2) (inl refl)
