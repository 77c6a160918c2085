use Rattle.std.proofs.Common.{◌≡◌, vec_len}
use Rattle.session_pool.specs.JobSeats.{AreOfSeats}
use Rattle.session_pool.proofs.turning.stealers_of.Given as goal

abbrev pub invariant-loop-number : goal.invariant-loop-number
invariant-loop-number l = (vec_len l.stealers ≡ l.number) × AreOfSeats l.stealers.items l.seats
