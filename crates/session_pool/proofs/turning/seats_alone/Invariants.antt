use Rattle.std.proofs.Common.{◌≡◌, vec_len}
use Rattle.session_pool.specs.JobSeats.{AreAlone}
use Rattle.session_pool.proofs.turning.seats_alone.Given as goal

abbrev pub invariant-loop-number : goal.invariant-loop-number
invariant-loop-number l = (vec_len l.seats ≡ l.number) × AreAlone l.seats.items
