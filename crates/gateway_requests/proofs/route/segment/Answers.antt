-- One slash more.
use Rattle.std.proofs.Common.{◌≡◌, ◌+◌, ◌-◌, arith, ◌∙◌, ap}
use Rattle.spec_service.specs.Path.{segment}
use Rattle.gateway_requests.proofs.Targets.{segment_behind}
use Rattle.gateway_requests.proofs.route.segment.Goals as goal

pub loop-left-preserved : goal.loop-left-preserved
loop-left-preserved c =
    let e : c.loop-left.left ≡ (c.loop-left.left - 1) + 1 = omega arith in
    ap (λ xs. segment (c.loop-left.left - 1) xs) c.behind-rest.ensures
    ∙ segment_behind c.loop-left.left (c.loop-left.left - 1) c.loop-left.rest.now e ∙ c.loop-left.invariant
