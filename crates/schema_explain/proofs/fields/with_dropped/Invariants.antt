-- The entries so far, before the lines of the routes that are left.
use Rattle.std.proofs.Common.{◌≡◌, ◌++◌, drop}
use Rattle.schema_explain.specs.Parts.{dropped}
use Rattle.schema_explain.proofs.fields.with_dropped.Given as goal

abbrev pub invariant-loop-position : goal.invariant-loop-position
invariant-loop-position l = l.all.items ++ dropped l.whole l.position (drop l.position l.routes) ≡ l.fn.entries.items ++ dropped l.whole 0 l.routes
