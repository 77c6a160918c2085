use Rattle.avro_bytes.specs.Laws.Shortests.{SoFar}
use Rattle.avro_bytes.specs.Shortest.{Extends}
use Rattle.avro_bytes.proofs.put.put_groups.Given as goal

abbrev pub invariant-loop-rest : goal.invariant-loop-rest
invariant-loop-rest l = record { groups : SoFar l.fn.out.items l.out.items l.fn.n l.rest; extends : Extends l.fn.out.items l.out.items }

abbrev pub decreases-loop-rest : goal.decreases-loop-rest
decreases-loop-rest l = l.rest
