-- The cells of the schemas are the same throughout.
use Rattle.std.proofs.Common.{◌≡◌}
use Rattle.gateway_server.proofs.upstream_client.next_ready.Given as goal

abbrev pub invariant-loop : goal.invariant-loop
invariant-loop g l = record {
  goes_on : (goal.iterator-loop g).can_next l.iterator';
  ends : (goal.iterator-loop g).is_finite l.iterator';
  same : l.desk ≡ l.fn.desk;
}
