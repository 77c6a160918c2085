use Rattle.session_pool.specs.JobSeats.{IsSeatOf}
use Rattle.session_pool_tests.proofs.jobs.left.Given as goal

abbrev pub invariant-loop : goal.invariant-loop
invariant-loop l = IsSeatOf l.jobs l.seat
