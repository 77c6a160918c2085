use Rattle.avro_datum.proofs.writing.+put.Goals as goal
use Rattle.avro_datum.proofs.Written.{extends_on, on_any_err}

pub put_pairs-returns-in_err-put_bytes-clause-err : goal.put_pairs-returns-in_err-put_bytes-clause-err
put_pairs-returns-in_err-put_bytes-clause-err t c = on_any_err c.from_residual.result _ (extends_on _ _ _ c.loop-pair.invariant.extends c.in_err-put_bytes.ensures.err)

pub put_pairs-returns-in_err-put_datum-clause-err : goal.put_pairs-returns-in_err-put_datum-clause-err
put_pairs-returns-in_err-put_datum-clause-err t c =
    on_any_err c.from_residual-in_err-put_datum.result _ (extends_on _ _ _ (extends_on _ _ _ c.loop-pair.invariant.extends (_, c.in_ok-put_bytes.ensures.ok)) c.in_err-put_datum.ensures.err)
