use Rattle.std.proofs.lemmas.Result.{err_from_is_err_and}
use Rattle.std.proofs.Common.{arith, ◌≡◌, length, ◌<◌}
use Rattle.spec_avro.specs.declared.limits.TheConstants.{MOST_NODES}
use Rattle.avro_schema.proofs.Runs.{run-no_room, run-leaf}
use Rattle.avro_schema_faults.proofs.types.walk_leaf.Goals as goal

pub returns-in_err-node : goal.returns-in_err-node
returns-in_err-node c =
    let p = err_from_is_err_and c.from_residual.result c.from_residual.ensures.1 in
    λ enclosing. rw (p.1, p.2, c.in_err-node.ensures.full) (λ _. run-no_room _ enclosing c.args.drafts.now c.in_err-node.ensures.none)

pub returns : goal.returns
returns c =
    let n : c.in_ok-node.node ≡ length c.args.drafts.now = c.in_ok-node.ensures.node in
    λ enclosing. rw (n, c.in_ok-push.ensures.nodes) (run-leaf _ enclosing c.args.drafts.now (let room : length c.args.drafts.now < MOST_NODES = omega (arith, c.in_ok-node.ensures.node, c.in_ok-node.ensures.room) in room))
