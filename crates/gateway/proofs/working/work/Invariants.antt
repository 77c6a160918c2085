-- The seat rests between two turns.
use Rattle.session_pool.specs.Seats.{RestsWorker}
use Rattle.gateway.proofs.working.work.Given as goal

abbrev pub invariant-loop : goal.invariant-loop
invariant-loop g l = record {
  goes_on : (goal.iterator-loop g).can_next l.iterator';
  ends : (goal.iterator-loop g).is_finite l.iterator';
  rests : RestsWorker l.pool l.seat;
}
