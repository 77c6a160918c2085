use Rattle.std.proofs.Common.{All}
use Rattle.session_pool.specs.Seats.{IsNewWorker}
use Rattle.gateway_tests.proofs.working.all_working.Given as goal

abbrev pub invariant-loop : goal.invariant-loop
invariant-loop l = All (IsNewWorker l.pool) l.seats.items
