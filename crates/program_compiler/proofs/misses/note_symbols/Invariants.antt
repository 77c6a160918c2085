-- The misses so far, with those of the symbols left, are all of them.
use Rattle.std.proofs.Common.{◌≡◌, drop, map}
use Rattle.std.specs.Prelude.{slice_get, string_bytes}
use Rattle.spec_machine.specs.Numbering.{adding, lacked, same_miss}
use Rattle.spec_machine.specs.Writing.{target}
use Rattle.program_compiler.proofs.misses.note_symbols.Given as goal

abbrev pub invariant-loop-position : goal.invariant-loop-position
invariant-loop-position l = adding same_miss l.misses (lacked (map (λ t. target l.writer l.reader (slice_get l.r l.reader) (string_bytes t)) (drop l.position l.texts))) ≡ adding same_miss l.fn.misses (lacked (map (λ t. target l.writer l.reader (slice_get l.r l.reader) (string_bytes t)) l.texts))
