-- The entries so far, before those of the symbols that are left.
use Rattle.std.proofs.Common.{◌≡◌, ◌++◌, drop, map, string_bytes}
use Rattle.schema_explain.specs.Parts.{symbol_entries}
use Rattle.schema_explain.proofs.parts.symbol_entries.Given as goal

abbrev pub invariant-loop-position : goal.invariant-loop-position
invariant-loop-position l =
    let theirs = l.theirs in
    l.entries.items ++ symbol_entries l.whole theirs l.default l.position (map string_bytes (drop l.position l.symbols)) ≡ symbol_entries l.whole theirs l.default 0 (map string_bytes l.symbols)
