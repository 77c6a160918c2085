-- The entries so far, before those of the symbols that are left, are all of them.
use Rattle.std.proofs.Common.{◌≡◌, ◌++◌, drop, map}
use Rattle.std.specs.Prelude.{slice_get, string_bytes}
use Rattle.spec_machine.specs.Numbering.{entry_of}
use Rattle.spec_machine.specs.Writing.{target}
use Rattle.program_ir.proofs.targets.entries.Given as goal

abbrev pub invariant-loop-position : goal.invariant-loop-position
invariant-loop-position l = l.entries.items ++ map (λ t. entry_of l.misses (target l.writer_node l.reader_node (slice_get l.reader l.reader_node) (string_bytes t))) (drop l.position l.symbols) ≡ map (λ t. entry_of l.misses (target l.writer_node l.reader_node (slice_get l.reader l.reader_node) (string_bytes t))) l.symbols
