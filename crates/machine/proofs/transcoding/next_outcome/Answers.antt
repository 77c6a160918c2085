use Rattle.std.proofs.lemmas.Result.{err_from_is_err_and}
use Rattle.machine.proofs.PairErrors.{outcome_told, payload_refused}
use Rattle.machine.proofs.transcoding.next_outcome.Goals as goal

pub returns-in_err-transcode : goal.returns-in_err-transcode
returns-in_err-transcode c = λ W R made.
    let p = err_from_is_err_and c.from_residual.result c.from_residual.ensures.1 in
    rw (p.1, p.2) (payload_refused W R c.args.payload.now c.args.transcoder.now made c.in_err-transcode.field-0.0 c.in_err-transcode.ensures.transcodes)

pub returns : goal.returns
returns c = λ W R made. outcome_told W R c.args.payload.now c.args.transcoder.now made c.in_ok-transcode.field-0 c.in_ok-transcode.ensures.transcodes
