-- A path for each number so far.
use Rattle.std.proofs.Common.{◌≡◌, length}
use Rattle.avro_schema_paths.proofs.paths.empty_paths.Given as goal

abbrev pub invariant-loop-node : goal.invariant-loop-node
invariant-loop-node l = length l.paths.items ≡ l._node
