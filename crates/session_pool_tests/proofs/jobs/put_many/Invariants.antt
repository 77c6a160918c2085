use Rattle.session_pool.specs.JobSeats.{IsSeatOf}
use Rattle.session_pool_tests.proofs.jobs.put_many.Given as goal

abbrev pub invariant-loop-slot : goal.invariant-loop-slot
invariant-loop-slot l = IsSeatOf l.jobs l.seat
