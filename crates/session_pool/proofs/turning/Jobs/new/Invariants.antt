use Rattle.std.proofs.Common.{◌≡◌, vec_len}
use Rattle.session_pool.proofs.Making.{AreUpTo}
use Rattle.session_pool.proofs.turning.Jobs.new.Given as goal

abbrev pub invariant-loop-number : goal.invariant-loop-number
invariant-loop-number l =
    (vec_len l.seats ≡ l.workers) × (vec_len l.jobs.stealers ≡ l.workers) × AreUpTo l.number l.jobs l.seats.items
