-- No route so far goes there.
use Rattle.std.proofs.Common.{◌≡◌, drop}
use Rattle.schema_explain.specs.Parts.{source}
use Rattle.schema_explain.proofs.fields.source_of.Given as goal

abbrev pub invariant-loop-i : goal.invariant-loop-i
invariant-loop-i l = source l.position l.i (drop l.i l.routes) ≡ source l.position 0 l.routes
