use Rattle.avro_bytes.specs.Laws.Shortests.{Counted}
use Rattle.avro_bytes.proofs.put.groups_len.Given as goal

abbrev pub invariant-loop-rest : goal.invariant-loop-rest
invariant-loop-rest l = Counted l.fn.n l.rest l.len

abbrev pub decreases-loop-rest : goal.decreases-loop-rest
decreases-loop-rest l = l.rest
