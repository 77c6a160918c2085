use Rattle.std.proofs.Common.{◌≡◌, ◌++◌, drop, string_bytes}
use Rattle.schema_report.specs.Listing.{node_lines}
use Rattle.schema_report.proofs.listing.list_nodes.Given as goal

abbrev pub invariant-loop-node : goal.invariant-loop-node
invariant-loop-node l = string_bytes l.output ++ node_lines l.nodes l.node (drop l.node l.paths) ≡ node_lines l.nodes 0 l.paths
