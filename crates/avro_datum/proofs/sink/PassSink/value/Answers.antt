use Rattle.avro_datum.proofs.Walked.{was_passed}
use Rattle.avro_datum.proofs.sink.PassSink.value.Goals as goal

pub returns-clause-walks : goal.returns-clause-walks
returns-clause-walks g c tree made = let p = was_passed tree _ c.in_ok-to.to c.in_ok-to.after c.in_ok-to.ensures.skips in (p.0, p.1, tt)
