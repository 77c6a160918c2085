-- The name and the aliases so far.
use Rattle.std.proofs.Common.{◌≡◌, ◌==◌, ◌&&◌, ◌||◌, ℕ, List, ◌+◌, take}
use Rattle.spec_avro.specs.Node.{names_of}
use Rattle.spec_avro.specs.Symbols.{is_used}
use Rattle.program_compiler.specs.NamedTypes.{last_parts, stands_under}
use Rattle.program_compiler.proofs.named_types.put_names.Given as goal

abbrev pub invariant-loop-position : goal.invariant-loop-position
invariant-loop-position l = (last : List ℕ) (n : ℕ) → stands_under l.nodes last n
    ≡ (((n == l.node) && is_used last (take (l.position + 1) (last_parts (names_of l.name l.aliases)))) || stands_under l.fn.nodes last n)
