-- One node more.
use Rattle.avro_types.specs.Node.{node_of}
use Rattle.program_compiler.specs.NamedTypes.{stands_under}
use Rattle.program_compiler.proofs.NamedTypes.{types_on}
use Rattle.program_compiler.proofs.named_types.NamedTypes.of_nodes.Goals as goal

pub loop-node-preserved : goal.loop-node-preserved
loop-node-preserved c = λ last n.
    types_on c.args.schema.now c.loop-node.node (node_of c.kind.result.now) last n (stands_under c.loop-node.nodes last n) (stands_under c.put_kind.new.nodes last n)
    c.kind.ensures.kind (c.loop-node.invariant last n) (c.in_ok-put_kind.ensures last n)
