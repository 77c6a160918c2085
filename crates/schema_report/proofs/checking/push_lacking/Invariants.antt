use Rattle.std.proofs.Common.{◌≡◌, ◌++◌, drop, slice_get, string_bytes}
use Rattle.std.specs.List.{flat_map}
use Rattle.schema_report.specs.Checking.{field_words}
use Rattle.schema_report.proofs.checking.push_lacking.Given as goal

abbrev pub invariant-loop-position : goal.invariant-loop-position
invariant-loop-position l =
    string_bytes l.output ++ flat_map (field_words (slice_get l.pair.reader.now l.pair.r)) (drop l.position-index l.position-items)
    ≡ string_bytes l.initial.output ++ flat_map (field_words (slice_get l.pair.reader.now l.pair.r)) l.position-items
