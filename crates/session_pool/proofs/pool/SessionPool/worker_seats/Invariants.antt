use Rattle.std.proofs.Common.{◌≡◌, ◌+◌, vec_len, length, All}
use Rattle.session_pool.specs.Calls.{IsEmpty}
use Rattle.session_pool.specs.JobSeats.{IsSeatOf}
use Rattle.session_pool_slots.specs.Seats as slots
use Rattle.session_pool.specs.Seats.{IsNewWorker}
use Rattle.session_pool.proofs.pool.SessionPool.worker_seats.Given as goal

abbrev pub invariant-loop-jobs : goal.invariant-loop-jobs
invariant-loop-jobs l = record {
  of_slots : slots.IsSeatOf l.self.slots l.first;
  count : vec_len l.seats + length l.jobs-iterator.rest.items ≡ vec_len l.fn.jobs;
  to_come : All (IsSeatOf l.self.jobs) l.jobs-iterator.rest.items;
  empty : All IsEmpty l.jobs-iterator.rest.items;
  made : All (IsNewWorker l.self) l.seats.items;
}
