-- The cells of the schemas are the same throughout.
use Rattle.std.proofs.Common.{◌≡◌}
use Rattle.gateway_server.proofs.desk.Desk.next_ready.Given as goal

abbrev pub invariant-loop : goal.invariant-loop
invariant-loop g l = l.self ≡ l.fn.self
