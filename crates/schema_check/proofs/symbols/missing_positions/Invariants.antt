-- Those so far, before those of the symbols that are left.
use Rattle.std.proofs.Common.{◌≡◌, ◌++◌, drop, map, string_bytes}
use Rattle.schema_check.specs.Details.{missing_positions}
use Rattle.schema_check.proofs.symbols.missing_positions.Given as goal

abbrev pub invariant-loop-position : goal.invariant-loop-position
invariant-loop-position l =
    let theirs = l.theirs in
    l.missing.items ++ missing_positions theirs l.default l.position (map string_bytes (drop l.position l.symbols)) ≡ missing_positions theirs l.default 0 (map string_bytes l.symbols)
