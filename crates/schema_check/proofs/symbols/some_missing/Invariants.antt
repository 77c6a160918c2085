-- No symbol so far is missing.
use Rattle.std.proofs.Common.{◌≡◌, drop, map, string_bytes}
use Rattle.resolver.specs.NextPairs.{some_missing}
use Rattle.schema_check.proofs.symbols.some_missing.Given as goal

abbrev pub invariant-loop-symbol : goal.invariant-loop-symbol
invariant-loop-symbol l =
    let theirs = l.theirs in
    some_missing theirs l.default (map string_bytes (drop l.symbol-index l.symbols)) ≡ some_missing theirs l.default (map string_bytes l.symbols)
