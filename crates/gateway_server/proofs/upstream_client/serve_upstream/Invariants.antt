-- The seat rests between two requests, and the cells of the schemas are the same throughout.
use Rattle.std.proofs.Common.{◌≡◌}
use Rattle.session_pool.specs.Seats.{Rests}
use Rattle.gateway_server.proofs.upstream_client.serve_upstream.Given as goal

abbrev pub invariant-loop : goal.invariant-loop
invariant-loop g l = record {
  goes_on : (goal.iterator-loop g).can_next l.iterator';
  ends : (goal.iterator-loop g).is_finite l.iterator';
  rests : Rests l.app.pool.now l.seat;
  same : l.desk ≡ l.fn.desk;
}
