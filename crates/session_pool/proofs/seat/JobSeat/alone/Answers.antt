use Rattle.session_pool.proofs.Balance.{starts}
use Rattle.session_pool.proofs.seat.JobSeat.alone.Goals as goal

pub fifo_as-requires : goal.fifo_as-requires
fifo_as-requires c = starts
