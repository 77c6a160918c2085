use Rattle.std.proofs.Common.{◌≡◌, map}
use Rattle.avro_types.specs.Node.{nodes_of}
use Rattle.avro_schema.proofs.Finished.{node_from}
use Rattle.avro_schema.proofs.finishing.nodes_with.Given as goal

abbrev pub invariant-loop-draft : goal.invariant-loop-draft
invariant-loop-draft l = nodes_of l.nodes.items ≡ map node_from l.yielded
