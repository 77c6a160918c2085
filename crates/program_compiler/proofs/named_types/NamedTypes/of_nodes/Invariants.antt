-- The nodes so far.
use Rattle.std.proofs.Common.{◌≡◌, ℕ, List, take}
use Rattle.std.specs.Prelude.{slice_get}
use Rattle.spec_avro.specs.Symbols.{is_used}
use Rattle.program_compiler.specs.NamedTypes.{stands_under, unqualified_names}
use Rattle.program_compiler.proofs.named_types.NamedTypes.of_nodes.Given as goal

abbrev pub invariant-loop-node : goal.invariant-loop-node
invariant-loop-node l = (last : List ℕ) (n : ℕ) → stands_under l.nodes last n ≡ is_used last (unqualified_names (slice_get (take l.node l.schema) n))
