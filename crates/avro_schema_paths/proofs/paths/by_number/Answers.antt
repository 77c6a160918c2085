-- One entry more: its path is put at its node's number, where that is counted.
use Rattle.std.proofs.Common.{arith}
use Rattle.avro_schema_paths.proofs.ByNumber.{one_left_out, one_put}
use Rattle.avro_schema_paths.proofs.paths.by_number.Goals as goal

pub loop-entry-preserved-then-node-len : goal.loop-entry-preserved-then-node-len
loop-entry-preserved-then-node-len c =
    one_put c.loop-entry.yielded c.in-Some.entry c.args.count c.loop-entry.paths.items (omega (arith, c.if-node-len.true, c.len.ensures)) c.loop-entry.invariant

pub loop-entry-preserved : goal.loop-entry-preserved
loop-entry-preserved c =
    one_left_out c.loop-entry.yielded c.in-Some.entry c.args.count c.loop-entry.paths.items (omega (arith, c.if-node-len.false, c.len.ensures)) c.loop-entry.invariant
