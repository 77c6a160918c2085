use Rattle.std.proofs.Common.{◌≡◌, ◌++◌, drop, string_bytes}
use Rattle.schema_report.specs.Checking.{AreInside, bad_lines}
use Rattle.schema_report.proofs.checking.push_all.Given as goal

abbrev pub invariant-loop-pair : goal.invariant-loop-pair
invariant-loop-pair l =
    (string_bytes l.output ++ bad_lines l.before l.writer l.reader (drop l.pair-index l.bad)
    ≡ string_bytes l.initial.output ++ bad_lines l.before l.writer l.reader l.bad)
    × AreInside l.writer l.reader (drop l.pair-index l.bad)
