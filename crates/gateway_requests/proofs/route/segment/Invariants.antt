-- The segment after the slashes that are left.
use Rattle.std.proofs.Common.{◌≡◌}
use Rattle.spec_service.specs.Path.{segment}
use Rattle.gateway_requests.proofs.route.segment.Given as goal

abbrev pub invariant-loop-left : goal.invariant-loop-left
invariant-loop-left l = segment l.left l.rest ≡ segment l.fn.number l.fn.path

abbrev pub decreases-loop-left : goal.decreases-loop-left
decreases-loop-left l = l.left
