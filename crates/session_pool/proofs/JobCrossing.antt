-- That threads may share the deques and that a seat may be sent: `Jobs` is `Sync`, `JobSeat` is `Send`.
use denote.Param.Send.{IsSend, IsSync, sendable}
use Rattle.std.proofs.Crossing.{crosses}
use Rattle.atomic_blocks.proofs.rows.shared.Rows.TheSendSync as rows
use Rattle.atomic_blocks.proofs.rows.shared.Seat.TheSendSync as passes
use Rattle.session_pool.specs.contracts.turning.Jobs as jobs
use Rattle.session_pool.specs.contracts.seat.JobSeat as seat

pub jobs-sync : IsSync jobs.the_row
jobs-sync = search (rows.the_send, rows.the_sync, crosses, sendable) depth 60 fits 20000

pub seat-send : IsSend seat.the_row
seat-send = search (rows.the_send, rows.the_sync, passes.the_send, crosses, sendable) depth 60 fits 20000
