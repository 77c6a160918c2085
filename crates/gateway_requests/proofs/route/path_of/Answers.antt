-- The path is text.
use Rattle.std.proofs.Common.{IsUtf8}
use Rattle.spec_service.specs.Path.{path_of}
use Rattle.gateway_requests.proofs.Targets.{path_is_text}
use Rattle.gateway_requests.proofs.route.path_of.Goals as goal

pub unreachable-requires : goal.unreachable-requires
unreachable-requires c =
    let is : IsUtf8 (path_of c.args.target.now) = path_is_text c.args.target.now c.requires in
    c.in-Err.ensures.cases.0 (rw c.before-2.ensures is)
